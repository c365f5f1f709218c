-- The rows of string methods: the receiver is a string, the arguments bind, and the method's answer
-- is made in the heap.
use Rattle.std.specs.Prelude.{ℕ, List, [], ◌∷◌, ◌++◌, Some}
use Rattle.star_core.specs.Heaps.{Change, HeapState}
use Rattle.star_core.specs.declared.values.Args.{Args}
use Rattle.star_core.specs.declared.values.Val.{Val}
use Rattle.star_core.specs.declared.values.Val.TheVariants as val
use Rattle.star_library.specs.Arguments.{arguments_bound}
use Rattle.star_library.specs.Calls.{give_back, go_on, list_made, result_of, text_made}
use Rattle.star_library.specs.Calls.{tuple_made}
use Rattle.star_text.specs.Answers.{answer_of}
use Rattle.star_text.specs.ArgumentValues.{Answered, result_then, scalars_of}
use Rattle.star_text.specs.MethodNames.{parameters_of}
use Rattle.star_text.specs.declared.text_answers.TextAnswer.{TextAnswer}
use Rattle.star_text.specs.declared.text_answers.TextAnswer.TheVariants as answer
use Rattle.star_text.specs.declared.methods.TextMethod.{TextMethod}

-- texts, each made behind those before it
abbrev pub texts_made : List Val → List (List ℕ) → HeapState → Change (List Val)
texts_made made [] heap = give_back made heap
texts_made made (text ∷ texts) heap =
    go_on (text_made text heap) (λ value. texts_made (made ++ value ∷ []) texts)

-- an answer as a value: a list and a tuple are made behind their items
unfoldable pub answer_made : TextAnswer → HeapState → Change Val
answer_made (answer.Text text) heap = text_made text heap
answer_made (answer.Flag flag) heap = give_back (val.Bool flag) heap
answer_made (answer.Number number) heap = give_back (val.Int number) heap
answer_made (answer.List texts) heap = go_on (texts_made [] texts heap) list_made
answer_made (answer.Tuple texts) heap = go_on (texts_made [] texts heap) tuple_made

-- what a method answers for a receiver and arguments
unfoldable pub answered : TextMethod → HeapState → Val → Args → Answered
answered method heap receiver args =
    result_then (scalars_of heap (Some receiver))
    (λ text. result_then (arguments_bound (parameters_of method) args)
    (answer_of method heap text))

-- the row of a method
unfoldable pub text_row : TextMethod → Val → Args → HeapState → Change Val
text_row method receiver args heap =
    go_on (result_of (answered method heap receiver args) heap) answer_made
