-- Variables, by their scopes: the Starlark specification, "Name binding and variables".
use Rattle.std.specs.Prelude.{ℕ, ◌+◌, if◌then◌else◌, List, [], ◌∷◌, ◌++◌, Option, Some, None}
use Rattle.std.specs.Prelude.{bytes_eq, position}
use Rattle.std.specs.List.{list_any}

-- ---- names

-- the variables of a scope, in the order in which the text first binds them
abbrev pub Names : Type 0
Names = List (List ℕ)

-- a scope after one more binding
abbrev pub with_binding : Names → List ℕ → Names
with_binding names name = if list_any (bytes_eq name) names then names else names ++ name ∷ []

-- the index of a name among the variables of a scope
abbrev pub slot_of : Names → List ℕ → Option ℕ
slot_of names name = position (bytes_eq name) names

-- ---- scopes, from the innermost on

-- a scope that many scopes further out
abbrev pub further : ℕ → Option (ℕ × ℕ) → Option (ℕ × ℕ)
further scopes None = None
further scopes (Some (scope, slot)) = Some (scope + scopes, slot)

-- a slot of the innermost scope, or else what the scopes round it have
abbrev pub here_or_further : Option ℕ → Option (ℕ × ℕ) → Option (ℕ × ℕ)
here_or_further None outside = further 1 outside
here_or_further (Some slot) outside = Some (0, slot)

-- the innermost scope that binds a name, counted outwards from 0, and the name's slot there
abbrev pub scope_and_slot : List Names → List ℕ → Option (ℕ × ℕ)
scope_and_slot [] name = None
scope_and_slot (names ∷ outer) name =
    here_or_further (slot_of names name) (scope_and_slot outer name)

-- the innermost scope
abbrev pub innermost : List Names → Option Names
innermost [] = None
innermost (names ∷ scopes) = Some names

-- the scopes round the innermost
abbrev pub outer : List Names → List Names
outer [] = []
outer (names ∷ scopes) = scopes

-- ---- bindings

-- a scope after some more bindings, in the order of the text
abbrev pub Binding : Type 0
Binding = Names → Names

-- what binds nothing
abbrev pub no_binding : Binding
no_binding = λ names. names

-- some bindings, each in turn
abbrev pub each_binds : List Binding → Binding
each_binds [] = no_binding
each_binds (binding ∷ more) = λ names. each_binds more (binding names)

-- the binding of one name
abbrev pub name_binds : List ℕ → Binding
name_binds name = λ names. with_binding names name

-- the variables that some bindings make, in order of the first
abbrev pub variables : List Binding → Names
variables bindings = each_binds bindings []

-- the variables of a function: its parameters, and what its body binds
abbrev pub function_variables : List Binding → List Binding → Names
function_variables params body = each_binds body (variables params)
