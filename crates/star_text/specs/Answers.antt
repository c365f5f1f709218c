-- What a string method answers: a table by method, over the characters of the text and the values
-- of the parameters. The Starlark specification, "Built-in methods" of strings.
use Rattle.std.specs.Prelude.{ℕ, ◌+◌, ◌==◌, false, if◌then◌else◌, Bool, List, [], ◌∷◌, length, map}
use Rattle.std.specs.Prelude.{Option, Some, None}
use Rattle.std.specs.Prelude.{Result, Ok, Err}
use Rattle.std.specs.Char.{encode_utf8}
use Rattle.std.specs.Str.{encode_utf8_all}
use Rattle.star_core.specs.Contents.{text_in}
use Rattle.star_core.specs.Heaps.{HeapState, cell_at}
use Rattle.star_core.specs.declared.faults.Fault.{Fault}
use Rattle.star_core.specs.declared.faults.Fault.TheVariants as fault
use Rattle.star_core.specs.declared.values.Val.{Val}
use Rattle.star_core.specs.declared.values.Val.TheVariants as val
use Rattle.star_library.specs.Kinds.{items_of}
use Rattle.star_print.specs.Prints.{Printed, and_behind, extended}
use Rattle.star_scalars.specs.Letters.{are_all, capitalized, is_its_own, is_one_of, is_space, lower}
use Rattle.star_scalars.specs.Letters.{title, upper, without_end, without_front}
use Rattle.star_scalars.specs.Lines.{empty_pieces, lines}
use Rattle.star_scalars.specs.Pieces.{first_pieces, last_pieces, last_words, words}
use Rattle.star_text.specs.Positions.{counted, found, index_or_fault, index_or_minus, sided}
use Rattle.star_scalars.specs.Searches.{cut_first, cut_last, without_prefix, without_suffix}
use Rattle.star_scalars.specs.declared.letters.Class.TheVariants as class
use Rattle.star_text.specs.ArgumentValues.{Answered, cuts_of, result_then, scalars_of, separator_of}
use Rattle.star_text.specs.ArgumentValues.{text_or_fault, value_at}
use Rattle.star_text.specs.declared.text_answers.TextAnswer.{TextAnswer}
use Rattle.star_text.specs.declared.text_answers.TextAnswer.TheVariants as answer
use Rattle.star_text.specs.declared.methods.TextMethod.{TextMethod}
use Rattle.star_text.specs.declared.methods.TextMethod.TheVariants as method
use Rattle.star_text.specs.declared.text_answers.Side.{Side}
use Rattle.star_text.specs.declared.text_answers.Side.TheVariants as side

-- the text of these characters
abbrev pub text_of : List ℕ → TextAnswer
text_of text = answer.Text (encode_utf8_all text)

-- a text without what stands at a side of a class
abbrev pub without : Side → (ℕ → Bool) → List ℕ → List ℕ
without side.Front class text = without_front class text
without side.End class text = without_end class text
without side.Both class text = without_end class (without_front class text)

-- a text without space, or without the characters of a set, at its sides
unfoldable pub stripped : Side → HeapState → Option Val → List ℕ → Answered
stripped at heap None text = Ok (text_of (without at is_space text))
stripped at heap (Some value) text =
    result_then (scalars_of heap (Some value)) (λ set. Ok (text_of (without at (is_one_of set) text)))

-- a text without another one at its front, or at its end
abbrev pub bared : (List ℕ → List ℕ → List ℕ) → HeapState → Option Val → List ℕ → Answered
bared change heap value text =
    result_then (scalars_of heap value) (λ part. Ok (text_of (change part text)))

-- the three parts of a cut
abbrev pub three_parts : List ℕ → List ℕ → List ℕ → TextAnswer
three_parts before separator behind =
    answer.Tuple
    (encode_utf8_all before ∷ encode_utf8_all separator ∷ encode_utf8_all behind ∷ [])

-- before and behind the first place of a separator; where it has none, the text comes first
abbrev pub parted_first : List ℕ → List ℕ → Option (List ℕ × List ℕ) → TextAnswer
parted_first separator text None = three_parts text [] []
parted_first separator text (Some parts) = three_parts parts.0 separator parts.1

-- the same of the last place; where it has none, the text comes last
abbrev pub parted_last : List ℕ → List ℕ → Option (List ℕ × List ℕ) → TextAnswer
parted_last separator text None = three_parts [] [] text
parted_last separator text (Some parts) = three_parts parts.0 separator parts.1

unfoldable pub partition : HeapState → Option Val → List ℕ → Answered
partition heap value text =
    result_then (separator_of heap value)
    (λ separator. Ok (parted_first separator text (cut_first separator text)))

unfoldable pub last_partition : HeapState → Option Val → List ℕ → Answered
last_partition heap value text =
    result_then (separator_of heap value)
    (λ separator. Ok (parted_last separator text (cut_last separator text)))

-- texts as an answer
abbrev pub list_of : List (List ℕ) → TextAnswer
list_of texts = answer.List (map encode_utf8_all texts)

-- the words of a text, and the pieces between a separator
abbrev pub split_words : Option Val → List ℕ → Answered
split_words most text =
    result_then (cuts_of (length text) most) (λ cuts. Ok (list_of (words cuts text)))

abbrev pub split_at : List ℕ → Option Val → List ℕ → Answered
split_at separator most text =
    result_then (cuts_of (length text) most)
    (λ cuts. Ok (list_of (first_pieces cuts separator text)))

-- where no separator is given, a text is cut into words
unfoldable pub split : HeapState → Option Val → Option Val → List ℕ → Answered
split heap None most text = split_words most text
split heap (Some value) most text =
    result_then (separator_of heap (Some value)) (λ separator. split_at separator most text)

-- a further item behind a text and the separator; each item is a string
abbrev pub item_behind : List ℕ → Option (List ℕ) → List ℕ → Printed
item_behind separator item text =
    result_then (text_or_fault item)
    (λ more. and_behind (extended text separator) (λ whole. extended whole more))

abbrev pub items_behind : HeapState → List ℕ → List Val → List ℕ → Printed
items_behind heap separator [] text = Ok text
items_behind heap separator (item ∷ items) text =
    and_behind (item_behind separator (text_in (cell_at heap item)) text)
    (items_behind heap separator items)

-- items with a separator between them
abbrev pub items_joined : HeapState → List ℕ → List Val → Printed
items_joined heap separator [] = Ok []
items_joined heap separator (item ∷ items) =
    and_behind (text_or_fault (text_in (cell_at heap item))) (items_behind heap separator items)

abbrev pub iterable : HeapState → Option Val → Result (List Val) Fault
iterable heap None = Err fault.Kind
iterable heap (Some value) = items_of heap value

unfoldable pub joined : HeapState → Option Val → List ℕ → Answered
joined heap value text =
    result_then (iterable heap value)
    (λ items. result_then (items_joined heap (encode_utf8_all text) items)
    (λ whole. Ok (answer.Text whole)))

-- where no separator is given, a text is cut into words, from the end on
abbrev pub split_last_words : Option Val → List ℕ → Answered
split_last_words most text =
    result_then (cuts_of (length text) most) (λ cuts. Ok (list_of (last_words cuts text)))

abbrev pub split_last_at : List ℕ → Option Val → List ℕ → Answered
split_last_at separator most text =
    result_then (cuts_of (length text) most)
    (λ cuts. Ok (list_of (last_pieces cuts separator text)))

unfoldable pub last_split : HeapState → Option Val → Option Val → List ℕ → Answered
last_split heap None most text = split_last_words most text
last_split heap (Some value) most text =
    result_then (separator_of heap (Some value)) (λ separator. split_last_at separator most text)

-- whether lines keep their ends
abbrev pub keeps_ends : Option Val → Result Bool Fault
keeps_ends None = Ok false
keeps_ends (Some val.None) = Ok false
keeps_ends (Some (val.Bool flag)) = Ok flag
keeps_ends (Some (val.Int number)) = Err fault.Kind
keeps_ends (Some (val.Cell number)) = Err fault.Kind

abbrev pub lines_of : Option Val → List ℕ → Answered
lines_of value text = result_then (keeps_ends value) (λ keep. Ok (list_of (lines keep text)))

-- the pieces of a text round the first places of another one, of which so many are cut
abbrev pub pieces_round : ℕ → List ℕ → List ℕ → List (List ℕ)
pieces_round cuts old text =
    if length old == 0 then empty_pieces cuts text else first_pieces cuts old text

-- further pieces behind a text, with another one before each
abbrev pub pieces_behind : List ℕ → List (List ℕ) → List ℕ → Printed
pieces_behind new [] text = Ok text
pieces_behind new (piece ∷ pieces) text =
    and_behind (item_behind new (Some piece) text) (pieces_behind new pieces)

abbrev pub pieces_joined : List ℕ → List (List ℕ) → Printed
pieces_joined new [] = Ok []
pieces_joined new (piece ∷ pieces) = pieces_behind new pieces piece

abbrev pub with_pieces : List ℕ → List (List ℕ) → Answered
with_pieces new pieces = result_then (pieces_joined new pieces) (λ whole. Ok (answer.Text whole))

-- a text with a new one in the first places of an old one; the empty text stands before each
-- character and at the end
abbrev pub replaced_by : List ℕ → List ℕ → Option Val → List ℕ → Answered
replaced_by old new most text =
    result_then (cuts_of (length text + 1) most)
    (λ cuts. with_pieces (encode_utf8_all new) (map encode_utf8_all (pieces_round cuts old text)))

unfoldable pub replaced : HeapState → List (Option Val) → List ℕ → Answered
replaced heap values text =
    result_then (scalars_of heap (value_at 0 values))
    (λ old. result_then (scalars_of heap (value_at 1 values))
    (λ new. replaced_by old new (value_at 2 values) text))

-- the table
unfoldable pub answer_of : TextMethod → HeapState → List ℕ → List (Option Val) → Answered
answer_of method.Capitalize heap text values = Ok (text_of (capitalized text))
answer_of method.Count heap text values = counted heap values text
answer_of method.Elems heap text values = Ok (answer.List (map encode_utf8 text))
answer_of method.Endswith heap text values = sided side.End heap values text
answer_of method.Find heap text values = index_or_minus (found side.Front heap values text)
answer_of method.Index heap text values = index_or_fault (found side.Front heap values text)
answer_of method.Isalnum heap text values = Ok (answer.Flag (are_all class.LetterOrDigit text))
answer_of method.Isalpha heap text values = Ok (answer.Flag (are_all class.Letter text))
answer_of method.Isdigit heap text values = Ok (answer.Flag (are_all class.Digit text))
answer_of method.Islower heap text values = Ok (answer.Flag (is_its_own lower text))
answer_of method.Isspace heap text values = Ok (answer.Flag (are_all class.Space text))
answer_of method.Istitle heap text values = Ok (answer.Flag (is_its_own title text))
answer_of method.Isupper heap text values = Ok (answer.Flag (is_its_own upper text))
answer_of method.Join heap text values = joined heap (value_at 0 values) text
answer_of method.Lower heap text values = Ok (text_of (lower text))
answer_of method.Lstrip heap text values = stripped side.Front heap (value_at 0 values) text
answer_of method.Partition heap text values = partition heap (value_at 0 values) text
answer_of method.Removeprefix heap text values = bared without_prefix heap (value_at 0 values) text
answer_of method.Removesuffix heap text values = bared without_suffix heap (value_at 0 values) text
answer_of method.Rfind heap text values = index_or_minus (found side.End heap values text)
answer_of method.Rindex heap text values = index_or_fault (found side.End heap values text)
answer_of method.Rpartition heap text values = last_partition heap (value_at 0 values) text
answer_of method.Rsplit heap text values =
    last_split heap (value_at 0 values) (value_at 1 values) text
answer_of method.Rstrip heap text values = stripped side.End heap (value_at 0 values) text
answer_of method.Split heap text values = split heap (value_at 0 values) (value_at 1 values) text
answer_of method.Startswith heap text values = sided side.Front heap values text
answer_of method.Strip heap text values = stripped side.Both heap (value_at 0 values) text
answer_of method.Title heap text values = Ok (text_of (title text))
answer_of method.Upper heap text values = Ok (text_of (upper text))
answer_of method.Replace heap text values = replaced heap values text
answer_of method.Splitlines heap text values = lines_of (value_at 0 values) text
