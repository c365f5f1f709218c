-- The content of a dictionary's key as a text, under which the dictionary finds it. Keys are None,
-- bools, ints, strings, labels and tuples of these: the Starlark specification, "Dictionaries". Two
-- keys are one exactly where these texts are: each begins with the letter of its kind, and what has
-- no fixed length says how long it is or where it ends.
use Rattle.std.specs.Prelude.{ℕ, zero, suc, ◌==◌, true, false, if◌then◌else◌, List, [], ◌∷◌, ◌++◌}
use Rattle.std.specs.Prelude.{length, Option, Some, None, Result, Ok, Err, codes}
use Rattle.std.specs.Fmt.{decimal, signed_decimal}
use Rattle.bz_base.specs.declared.labels.Label.{Label}
use Rattle.star_core.specs.Heaps.{HeapState, cell_at}
use Rattle.star_core.specs.declared.cells.Cell.{Cell}
use Rattle.star_core.specs.declared.cells.Cell.TheVariants as cell
use Rattle.star_core.specs.declared.faults.Fault.{Fault}
use Rattle.star_core.specs.declared.faults.Fault.TheVariants as fault
use Rattle.star_core.specs.declared.values.Val.{Val}
use Rattle.star_core.specs.declared.values.Val.TheVariants as val
use Rattle.star_trees.specs.Nesting.{deepest}

-- a content, or why a value is no key
abbrev pub Content : Type 0
Content = Result (List ℕ) Fault

-- a text behind its length
abbrev pub measured : List ℕ → List ℕ
measured text = decimal (length text) ++ codes ":" ++ text

abbrev pub label_content : Label → List ℕ
label_content label =
    codes "l" ++ measured label.repo ++ measured label.package ++ measured label.name

-- one content behind another, of which the first refusal wins
abbrev pub behind : Content → Content → Content
behind (Ok front) (Ok rest) = Ok (front ++ rest)
behind (Ok front) (Err reason) = Err reason
behind (Err reason) rest = Err reason

-- the contents of a tuple's items in order
abbrev pub each_content : (Val → Content) → List Val → Content
each_content content [] = Ok []
each_content content (item ∷ items) = behind (content item) (each_content content items)

-- a tuple's content in its brackets
abbrev pub bracketed : Content → Content
bracketed (Ok inside) = Ok (codes "(" ++ inside ++ codes ")")
bracketed (Err reason) = Err reason

-- the content of a cell, by that of a tuple's items
abbrev pub cell_content : (List Val → Content) → Option Cell → Content
cell_content items None = Err fault.Kind
cell_content items (Some (cell.Text text)) = Ok (codes "s" ++ measured text)
cell_content items (Some (cell.Tuple inside)) = items inside
cell_content items (Some (cell.Label label)) = Ok (label_content label)
cell_content items (Some (cell.List inside)) = Err fault.Kind
cell_content items (Some (cell.Dict entries)) = Err fault.Kind
cell_content items (Some (cell.Range first stop step)) = Err fault.Kind
cell_content items (Some (cell.Function function)) = Err fault.Kind
cell_content items (Some (cell.Builtin name)) = Err fault.Kind
cell_content items (Some (cell.Bound receiver method)) = Err fault.Kind
cell_content items (Some (cell.Struct fields)) = Err fault.Kind
cell_content items (Some (cell.Path repo segments)) = Err fault.Kind
cell_content items (Some (cell.Host kind fields)) = Err fault.Kind

-- the content of a value, by that of a tuple's items
abbrev pub value_content : (List Val → Content) → HeapState → Val → Content
value_content items heap val.None = Ok (codes "n")
value_content items heap (val.Bool true) = Ok (codes "t")
value_content items heap (val.Bool false) = Ok (codes "f")
value_content items heap (val.Int number) = Ok (codes "i" ++ signed_decimal number ++ codes ";")
value_content items heap (val.Cell number) = cell_content items (cell_at heap (val.Cell number))

-- the content of a value in which so many tuples nest at most
unfoldable pub content_within : ℕ → HeapState → Val → Content
content_within zero heap value = value_content (λ items. Err fault.Depth) heap value
content_within (suc depth) heap value =
    value_content (λ items. bracketed (each_content (content_within depth heap) items)) heap value

-- a string is found by itself, so that looking one up copies nothing, but where it begins with the
-- sign that stands before every other content
abbrev pub text_content : List ℕ → List ℕ
text_content [] = []
text_content (first ∷ rest) =
    if first == 1 then 1 ∷ codes "s" ++ first ∷ rest else first ∷ rest

abbrev pub marked : Content → Content
marked (Ok content) = Ok (1 ∷ content)
marked (Err reason) = Err reason

-- the text of a string; of no other cell
abbrev pub text_in : Option Cell → Option (List ℕ)
text_in (Some (cell.Text text)) = Some text
text_in (Some (cell.List items)) = None
text_in (Some (cell.Tuple items)) = None
text_in (Some (cell.Dict entries)) = None
text_in (Some (cell.Range first stop step)) = None
text_in (Some (cell.Function function)) = None
text_in (Some (cell.Builtin name)) = None
text_in (Some (cell.Bound receiver method)) = None
text_in (Some (cell.Struct fields)) = None
text_in (Some (cell.Label label)) = None
text_in (Some (cell.Path repo segments)) = None
text_in (Some (cell.Host kind fields)) = None
text_in None = None

abbrev pub content_by : Option (List ℕ) → HeapState → Val → Content
content_by (Some text) heap value = Ok (text_content text)
content_by None heap value = marked (content_within deepest heap value)

-- the text under which a dictionary finds a key
abbrev pub key_content : HeapState → Val → Content
key_content heap value = content_by (text_in (cell_at heap value)) heap value
