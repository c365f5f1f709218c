-- Lists of strings in a heap.
use Rattle.std.specs.Prelude.{ℕ, List, [], ◌∷◌, ◌++◌, Option, Some, None}
use Rattle.star_core.specs.Contents.{text_in}
use Rattle.star_core.specs.Heaps.{HeapState, cell_at}
use Rattle.star_core.specs.declared.cells.Cell.{Cell}
use Rattle.star_core.specs.declared.cells.Cell.TheVariants as cell
use Rattle.star_core.specs.declared.values.Val.{Val}

-- the text of a string, and None of every other value
abbrev pub text_at : HeapState → Val → Option (List ℕ)
text_at heap value = text_in (cell_at heap value)

-- some texts and one more
abbrev pub one_more : List (List ℕ) → Option (List ℕ) → Option (List (List ℕ))
one_more texts None = None
one_more texts (Some text) = Some (texts ++ text ∷ [])

-- the texts so far and those of strings; None where some value is no string
abbrev pub texts_after : HeapState → Option (List (List ℕ)) → List Val → Option (List (List ℕ))
texts_after heap None values = None
texts_after heap (Some texts) [] = Some texts
texts_after heap (Some texts) (value ∷ values) =
    texts_after heap (one_more texts (text_at heap value)) values

-- the texts of strings; None where some value is no string
abbrev pub each_text : HeapState → List Val → Option (List (List ℕ))
each_text heap values = texts_after heap (Some []) values

-- the texts of a list or a tuple of strings
unfoldable pub texts_in : HeapState → Option Cell → Option (List (List ℕ))
texts_in heap None = None
texts_in heap (Some (cell.List items)) = each_text heap items
texts_in heap (Some (cell.Tuple items)) = each_text heap items
texts_in heap (Some (cell.Text text)) = None
texts_in heap (Some (cell.Dict entries)) = None
texts_in heap (Some (cell.Range first stop step)) = None
texts_in heap (Some (cell.Function function)) = None
texts_in heap (Some (cell.Builtin name)) = None
texts_in heap (Some (cell.Bound receiver method)) = None
texts_in heap (Some (cell.Struct fields)) = None
texts_in heap (Some (cell.Label label)) = None
texts_in heap (Some (cell.Path repo segments)) = None
texts_in heap (Some (cell.Host kind fields)) = None

abbrev pub texts_of : HeapState → Val → Option (List (List ℕ))
texts_of heap value = texts_in heap (cell_at heap value)
