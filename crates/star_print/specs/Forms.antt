-- How a value prints: as a text, or as its parts between brackets. The Starlark specification,
-- "repr".
use Rattle.std.specs.Prelude.{ℕ, ℤ, pos, true, false, List, [], ◌∷◌, ◌++◌, codes, map}
use Rattle.std.specs.Prelude.{Option, Some, None, if◌then◌else◌}
use Rattle.std.specs.Fmt.{signed_decimal}
use Rattle.std.specs.List.{join_by}
use Rattle.std.specs.Ordering.{int_eq}
use Rattle.bz_base.specs.PlainTexts.{label_text}
use Rattle.star_core.specs.Heaps.{HeapState, cell_at}
use Rattle.star_core.specs.declared.cells.Cell.{Cell}
use Rattle.star_core.specs.declared.cells.Cell.TheVariants as cell
use Rattle.star_core.specs.declared.dict.Pair.{Pair}
use Rattle.star_core.specs.declared.values.NamedVal.{NamedVal}
use Rattle.star_core.specs.declared.values.Val.{Val}
use Rattle.star_core.specs.declared.values.Val.TheVariants as val
use Rattle.star_print.specs.Escapes.{quoted}
use Rattle.star_print.specs.FieldOrder.{in_order}
use Rattle.star_print.specs.declared.forms.Brackets.{Brackets}
use Rattle.star_print.specs.declared.forms.Brackets.TheVariants as brackets
use Rattle.star_print.specs.declared.forms.Form.{Form}
use Rattle.star_print.specs.declared.forms.Form.TheVariants as form
use Rattle.star_print.specs.declared.forms.Piece.{Piece}
use Rattle.star_print.specs.declared.forms.Piece.TheVariants as piece

-- what stands before a container's first part, and behind its last
abbrev pub opening : Brackets → List ℕ
opening brackets.List = codes "["
opening brackets.Tuple = codes "("
opening brackets.Single = codes "("
opening brackets.Dict = codes "{"
opening brackets.Struct = codes "struct("

abbrev pub closing : Brackets → List ℕ
closing brackets.List = codes "]"
closing brackets.Tuple = codes ")"
closing brackets.Single = codes ",)"
closing brackets.Dict = codes "}"
closing brackets.Struct = codes ")"

-- an item, a dictionary's entry and a field
abbrev pub item_pieces : Val → List Piece
item_pieces item = piece.Shown item ∷ []

abbrev pub pair_pieces : Pair → List Piece
pair_pieces pair = piece.Shown pair.key ∷ piece.Colon ∷ piece.Shown pair.value ∷ []

abbrev pub field_pieces : NamedVal → List Piece
field_pieces field = piece.Name field.name ∷ piece.Equals ∷ piece.Shown field.val ∷ []

-- parts with commas between them
abbrev pub listed : {A : Type 0} → (A → List Piece) → List A → List Piece
listed part parts = join_by part (piece.Comma ∷ []) parts

-- a tuple of one item has a comma behind it
abbrev pub tuple_brackets : List Val → Brackets
tuple_brackets [] = brackets.Tuple
tuple_brackets (item ∷ []) = brackets.Single
tuple_brackets (item ∷ other ∷ items) = brackets.Tuple

-- a text between two others
abbrev pub enclosed : List ℕ → List ℕ → List ℕ → List ℕ
enclosed before inside behind = before ++ inside ++ behind

-- a range, whose step is left out where it is 1
abbrev pub range_end : ℤ → List ℕ
range_end step =
    if int_eq step (pos 1) then codes ")" else enclosed (codes ", ") (signed_decimal step) (codes ")")

abbrev pub range_text : ℤ → ℤ → ℤ → List ℕ
range_text first stop step =
    codes "range(" ++ signed_decimal first ++ codes ", " ++ signed_decimal stop ++ range_end step

-- a path below its repository's root
abbrev pub path_text : List ℕ → List (List ℕ) → List ℕ
path_text repo segments =
    codes "/repos/@@" ++ repo ++ codes "/" ++ join_by (λ segment. segment) (codes "/") segments

-- how a cell prints; a number without a cell prints nothing
unfoldable pub cell_form : Option Cell → Form
cell_form None = form.Whole []
cell_form (Some (cell.Text text)) = form.Whole (quoted text)
cell_form (Some (cell.List items)) = form.Container brackets.List (listed item_pieces items)
cell_form (Some (cell.Tuple items)) =
    form.Container (tuple_brackets items) (listed item_pieces items)
cell_form (Some (cell.Dict entries)) =
    form.Container brackets.Dict (listed pair_pieces (map (λ entry. entry.pair) entries))
cell_form (Some (cell.Range first stop step)) = form.Whole (range_text first stop step)
cell_form (Some (cell.Function function)) =
    form.Whole (enclosed (codes "<function ") function.name (codes ">"))
cell_form (Some (cell.Builtin name)) =
    form.Whole (enclosed (codes "<built-in function ") name (codes ">"))
cell_form (Some (cell.Bound receiver method)) =
    form.Whole (enclosed (codes "<built-in function ") method (codes ">"))
cell_form (Some (cell.Struct fields)) =
    form.Container brackets.Struct (listed field_pieces (in_order fields))
cell_form (Some (cell.Label label)) =
    form.Whole (enclosed (codes "Label(") (quoted (label_text label)) (codes ")"))
cell_form (Some (cell.Path repo segments)) = form.Whole (path_text repo segments)
cell_form (Some (cell.Host kind fields)) = form.Whole (enclosed (codes "<") kind (codes ">"))

-- how a value prints
unfoldable pub form_of : HeapState → Val → Form
form_of heap val.None = form.Whole (codes "None")
form_of heap (val.Bool true) = form.Whole (codes "True")
form_of heap (val.Bool false) = form.Whole (codes "False")
form_of heap (val.Int number) = form.Whole (signed_decimal number)
form_of heap (val.Cell number) = cell_form (cell_at heap (val.Cell number))
