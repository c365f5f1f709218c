-- The values of a call's parameters: which are given, and of which kind they are.
use Rattle.std.specs.Prelude.{ℕ, ℤ, Bool, List, [], ◌∷◌, slice_get, option_and_then, bytes_eq}
use Rattle.std.specs.Prelude.{Option, Some, None, Result, Ok, Err, if◌then◌else◌}
use Rattle.star_core.specs.declared.faults.Fault.{Fault}
use Rattle.star_core.specs.declared.faults.Fault.TheVariants as fault
use Rattle.star_core.specs.declared.values.NamedVal.{NamedVal}
use Rattle.star_core.specs.declared.values.Val.{Val}
use Rattle.star_core.specs.declared.values.Val.TheVariants as val
use Rattle.star_library.specs.Arguments.{OneBound}
use Rattle.star_library.specs.ParameterNames.{name_text}
use Rattle.star_library.specs.declared.parameter_names.ParameterName.{ParameterName}

-- a result, and what is made of it; the first refusal wins
abbrev pub result_then : {A B : Type 0} → Result A Fault → (A → Result B Fault) → Result B Fault
result_then (Ok value) next = next value
result_then (Err reason) next = Err reason

-- the value of the parameter with this index, where it is given
abbrev pub value_at : ℕ → List (Option Val) → Option Val
value_at index values = option_and_then (λ value. value) (slice_get values index)

-- the value of a parameter that has to be given
abbrev pub value_or_none : Option Val → Val
value_or_none None = val.None
value_or_none (Some value) = value

abbrev pub needed_at : ℕ → List (Option Val) → Val
needed_at index values = value_or_none (value_at index values)

-- a value other than None
abbrev pub given : Option Val → Option Val
given None = None
given (Some val.None) = None
given (Some (val.Bool flag)) = Some (val.Bool flag)
given (Some (val.Int number)) = Some (val.Int number)
given (Some (val.Cell number)) = Some (val.Cell number)

-- the value of a parameter that may be left out: None counts as left out
abbrev pub given_at : ℕ → List (Option Val) → Option Val
given_at index values = given (value_at index values)

-- an integer
abbrev pub integer : Val → Result ℤ Fault
integer (val.Int number) = Ok number
integer val.None = Err fault.Kind
integer (val.Bool flag) = Err fault.Kind
integer (val.Cell number) = Err fault.Kind

-- an integer that may be left out
abbrev pub integer_or : ℤ → Option Val → Result ℤ Fault
integer_or default None = Ok default
integer_or default (Some value) = integer value

-- a bool
abbrev pub flag : Val → Result Bool Fault
flag (val.Bool truth) = Ok truth
flag val.None = Err fault.Kind
flag (val.Int number) = Err fault.Kind
flag (val.Cell number) = Err fault.Kind

-- a bool that may be left out
abbrev pub flag_or : Bool → Option Val → Result Bool Fault
flag_or default None = Ok default
flag_or default (Some value) = flag value

-- an argument of this name
abbrev pub value_named : ParameterName → NamedVal → OneBound
value_named wanted one =
    if bytes_eq one.name (name_text wanted) then Ok (Some one.val) else Err fault.Arity

-- the value of the one parameter of a call that is given by name
unfoldable pub only_named : ParameterName → List NamedVal → OneBound
only_named wanted [] = Ok None
only_named wanted (one ∷ []) = value_named wanted one
only_named wanted (one ∷ other ∷ more) = Err fault.Arity
