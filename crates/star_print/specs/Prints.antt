-- What is written behind a text: the Starlark specification, "str" and "repr". A container's parts
-- are written in order, and the first refusal wins.
use Rattle.std.specs.Prelude.{ℕ, zero, suc, ◌+◌, nat_lt, List, [], ◌∷◌, ◌++◌, codes, length}
use Rattle.std.specs.Prelude.{Option, Some, None, Result, Ok, Err, if◌then◌else◌}
use Rattle.bz_base.specs.PlainTexts.{label_text}
use Rattle.star_core.specs.Heaps.{HeapState, cell_at}
use Rattle.star_core.specs.Sizes.{most_bytes}
use Rattle.star_core.specs.declared.cells.Cell.{Cell}
use Rattle.star_core.specs.declared.cells.Cell.TheVariants as cell
use Rattle.star_core.specs.declared.faults.Fault.{Fault}
use Rattle.star_core.specs.declared.faults.Fault.TheVariants as fault
use Rattle.star_core.specs.declared.values.Val.{Val}
use Rattle.star_print.specs.Forms.{closing, form_of, opening}
use Rattle.star_print.specs.declared.forms.Brackets.{Brackets}
use Rattle.star_print.specs.declared.forms.Form.{Form}
use Rattle.star_print.specs.declared.forms.Form.TheVariants as form
use Rattle.star_print.specs.declared.forms.Piece.{Piece}
use Rattle.star_print.specs.declared.forms.Piece.TheVariants as piece
use Rattle.star_trees.specs.Nesting.{deepest}

-- a text, or why it isn't written
abbrev pub Printed : Type 0
Printed = Result (List ℕ) Fault

-- a text with another behind it; a text may have 16 MiB at most
unfoldable pub extended : List ℕ → List ℕ → Printed
extended text more =
    if nat_lt most_bytes (length text + length more) then Err fault.Size else Ok (text ++ more)

-- what is written behind a text that was written
abbrev pub and_behind : Printed → (List ℕ → Printed) → Printed
and_behind (Ok text) next = next text
and_behind (Err reason) next = Err reason

-- a part of a container behind a text, by how values are written
abbrev pub piece_behind : (Val → List ℕ → Printed) → Piece → List ℕ → Printed
piece_behind inside piece.Comma text = extended text (codes ", ")
piece_behind inside piece.Colon text = extended text (codes ": ")
piece_behind inside piece.Equals text = extended text (codes " = ")
piece_behind inside (piece.Name name) text = extended text name
piece_behind inside (piece.Shown value) text = inside value text

abbrev pub pieces_behind : (Val → List ℕ → Printed) → List Piece → List ℕ → Printed
pieces_behind inside [] text = Ok text
pieces_behind inside (piece ∷ pieces) text =
    and_behind (piece_behind inside piece text) (pieces_behind inside pieces)

-- a form behind a text, by how the parts of a container are written
abbrev pub container_behind : (List Piece → List ℕ → Printed) → Brackets → List Piece → List ℕ → Printed
container_behind parts brackets pieces text =
    and_behind (and_behind (extended text (opening brackets)) (parts pieces))
    (λ inside. extended inside (closing brackets))

abbrev pub form_behind : (List Piece → List ℕ → Printed) → Form → List ℕ → Printed
form_behind parts (form.Whole whole) text = extended text whole
form_behind parts (form.Container brackets pieces) text =
    container_behind parts brackets pieces text

-- a value behind a text, where so many containers may nest
unfoldable pub repr_within : ℕ → HeapState → Val → List ℕ → Printed
repr_within zero heap value text =
    form_behind (λ pieces inside. Err fault.Depth) (form_of heap value) text
repr_within (suc depth) heap value text =
    form_behind (pieces_behind (repr_within depth heap)) (form_of heap value) text

-- the parts of a container behind a text, where so many containers may nest, this one among them
unfoldable pub pieces_within : ℕ → HeapState → List Piece → List ℕ → Printed
pieces_within zero heap pieces text = Err fault.Depth
pieces_within (suc depth) heap pieces text = pieces_behind (repr_within depth heap) pieces text

-- the text that `repr` gives
unfoldable pub repr_of : HeapState → Val → Printed
repr_of heap value = repr_within deepest heap value []

-- what `str` prints as it is: a string, or a label without its brackets
abbrev pub bare_text : Option Cell → Option (List ℕ)
bare_text None = None
bare_text (Some (cell.Text text)) = Some text
bare_text (Some (cell.Label label)) = Some (label_text label)
bare_text (Some (cell.List items)) = None
bare_text (Some (cell.Tuple items)) = None
bare_text (Some (cell.Dict entries)) = None
bare_text (Some (cell.Range first stop step)) = None
bare_text (Some (cell.Function function)) = None
bare_text (Some (cell.Builtin name)) = None
bare_text (Some (cell.Bound receiver method)) = None
bare_text (Some (cell.Struct fields)) = None
bare_text (Some (cell.Path repo segments)) = None
bare_text (Some (cell.Host kind fields)) = None

abbrev pub bare_or_repr : Option (List ℕ) → HeapState → Val → Printed
bare_or_repr (Some text) heap value = Ok text
bare_or_repr None heap value = repr_of heap value

-- the text that `str` gives
unfoldable pub str_of : HeapState → Val → Printed
str_of heap value = bare_or_repr (bare_text (cell_at heap value)) heap value
