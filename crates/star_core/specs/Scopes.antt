-- The store of variables: scopes by number, each with the number of the scope round it, so that the
-- number of the innermost names the whole chain and closures share variables. The Starlark
-- specification, "Name binding and variables".
use Rattle.std.specs.Prelude.{ℕ, zero, suc, List, [], ◌∷◌, ◌++◌, Option, Some, None}
use Rattle.std.specs.Prelude.{option_and_then, slice_get, slice_set}
use Rattle.star_core.specs.declared.scopes.Scope.{Scope}
use Rattle.star_core.specs.declared.values.Val.{Val}

-- the scope round a scope; a number without a scope leads nowhere else
abbrev pub around_in : Option Scope → ℕ → ℕ
around_in None number = number
around_in (Some scope) number = scope.around

-- the scope so many scopes outwards
unfoldable pub outwards : List Scope → ℕ → ℕ → ℕ
outwards scopes zero number = number
outwards scopes (suc hops) number =
    let inner = outwards scopes hops number in around_in (slice_get scopes inner) inner

-- what a slot holds; one that isn't there is unset
abbrev pub slot_value : List (Option Val) → ℕ → Option Val
slot_value slots slot = option_and_then (λ value. value) (slice_get slots slot)

-- the value of a variable of the scope with this number, where it is set
abbrev pub variable_at : List Scope → ℕ → ℕ → Option Val
variable_at scopes number slot =
    option_and_then (λ scope. slot_value scope.slots slot) (slice_get scopes number)

-- the slots with one of them set; those before it that aren't there yet are unset
abbrev pub with_slot : List (Option Val) → ℕ → Val → List (Option Val)
with_slot [] zero value = Some value ∷ []
with_slot [] (suc slot) value = None ∷ with_slot [] slot value
with_slot (first ∷ slots) zero value = Some value ∷ slots
with_slot (first ∷ slots) (suc slot) value = first ∷ with_slot slots slot value

abbrev pub with_variable_in : Option Scope → ℕ → ℕ → Val → List Scope → List Scope
with_variable_in None number slot value scopes = scopes
with_variable_in (Some scope) number slot value scopes =
    slice_set scopes number
    (record { around = scope.around; slots = with_slot scope.slots slot value })

-- the store with a variable set; a number without a scope changes nothing
abbrev pub with_variable : List Scope → ℕ → ℕ → Val → List Scope
with_variable scopes number slot value =
    with_variable_in (slice_get scopes number) number slot value scopes

-- the store with one more scope, whose number is how many there were
abbrev pub with_scope : List Scope → ℕ → List (Option Val) → List Scope
with_scope scopes around slots = scopes ++ record { around = around; slots = slots } ∷ []
