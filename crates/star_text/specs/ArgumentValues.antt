-- Arguments of string methods: what each may be, checked in the order of the parameters.
use Rattle.std.specs.Prelude.{ℕ, ℤ, pos, negsuc, min, List, [], ◌∷◌, slice_get}
use Rattle.std.specs.Prelude.{Option, Some, None, option_and_then, Result, Ok, Err}
use Rattle.std.specs.Str.{chars}
use Rattle.star_core.specs.Contents.{text_in}
use Rattle.star_core.specs.Heaps.{HeapState, cell_at}
use Rattle.star_core.specs.declared.faults.Fault.{Fault}
use Rattle.star_core.specs.declared.faults.Fault.TheVariants as fault
use Rattle.star_core.specs.declared.values.Val.{Val}
use Rattle.star_core.specs.declared.values.Val.TheVariants as val
use Rattle.star_text.specs.declared.text_answers.TextAnswer.{TextAnswer}

-- an answer, or why there is none
abbrev pub Answered : Type 0
Answered = Result TextAnswer Fault

-- the value of the parameter with this index; None counts as no value
abbrev pub given : Option Val → Option Val
given None = None
given (Some val.None) = None
given (Some (val.Bool flag)) = Some (val.Bool flag)
given (Some (val.Int number)) = Some (val.Int number)
given (Some (val.Cell number)) = Some (val.Cell number)

abbrev pub value_at : ℕ → List (Option Val) → Option Val
value_at index values = given (option_and_then (λ value. value) (slice_get values index))

-- a result, and what is made of it; the first refusal wins
abbrev pub result_then : {A B : Type 0} → Result A Fault → (A → Result B Fault) → Result B Fault
result_then (Ok value) next = next value
result_then (Err reason) next = Err reason

-- a text, or that there is none
abbrev pub text_or_fault : Option (List ℕ) → Result (List ℕ) Fault
text_or_fault None = Err fault.Kind
text_or_fault (Some text) = Ok text

-- the characters of a string
abbrev pub scalars_or_fault : Option (List ℕ) → Result (List ℕ) Fault
scalars_or_fault None = Err fault.Kind
scalars_or_fault (Some text) = Ok (chars text)

unfoldable pub scalars_of : HeapState → Option Val → Result (List ℕ) Fault
scalars_of heap None = Err fault.Kind
scalars_of heap (Some value) = scalars_or_fault (text_in (cell_at heap value))

-- a separator: a string that isn't empty
abbrev pub unless_empty : List ℕ → Result (List ℕ) Fault
unless_empty [] = Err fault.Value
unless_empty (c ∷ text) = Ok (c ∷ text)

unfoldable pub separator_of : HeapState → Option Val → Result (List ℕ) Fault
separator_of heap value = result_then (scalars_of heap value) unless_empty

-- a number, which a greater or a negative one doesn't pass
abbrev pub at_most : ℤ → ℕ → ℕ
at_most (pos number) most = min number most
at_most (negsuc number) most = most

-- how often to cut: where no number is given, or a negative one, as often as there is a place
unfoldable pub cuts_of : ℕ → Option Val → Result ℕ Fault
cuts_of most None = Ok most
cuts_of most (Some val.None) = Ok most
cuts_of most (Some (val.Bool flag)) = Err fault.Kind
cuts_of most (Some (val.Int number)) = Ok (at_most number most)
cuts_of most (Some (val.Cell number)) = Err fault.Kind
