-- A heap that has each cell of another, or what that may become, keeps its values, its contents and
-- its good cells.
use Rattle.std.proofs.Common.{◌≡◌, ℕ, zero, suc, true, false, IsTrue, List, []}
use Rattle.std.proofs.Common.{◌∷◌, Option, Some, None, Ok, Err, refl, ap, sym}
use Rattle.std.proofs.Common.{subst, slice_get, option_map, arith, ◌∙◌, inl, inr}
use Rattle.std.proofs.lemmas.List.Elements.{All-weaker}
use Rattle.std.proofs.lemmas.Option.{slice_get_cases, slice_get_within}
use Rattle.star_core.specs.Conditions.{IsCellOf, IsEntryOf}
use Rattle.star_core.specs.Conditions.{Surroundings}
use Rattle.star_core.specs.Contents.{Content, behind, bracketed, cell_content, content_by}
use Rattle.star_core.specs.Contents.{content_within, each_content, key_content, marked, text_in}
use Rattle.star_core.specs.Contents.{value_content}
use Rattle.star_core.specs.HeapLaws.{Becomes, Extends}
use Rattle.star_core.specs.Heaps.{HeapState, cell_at}
use Rattle.star_core.specs.Hosts.{IsValueOf}
use Rattle.star_core.specs.LibraryNames.{has_method}
use Rattle.star_core.specs.declared.cells.Cell.{Cell}
use Rattle.star_core.specs.declared.cells.Cell.TheVariants as cell
use Rattle.star_core.specs.declared.faults.Fault.TheVariants as fault
use Rattle.star_core.specs.declared.heap.HeapCell.{HeapCell}
use Rattle.star_core.specs.declared.values.Val.{Val}
use Rattle.star_core.specs.declared.values.Val.TheVariants as val
use Rattle.star_trees.specs.Nesting.{deepest}

-- the second content is the first, where that is one
abbrev Keeps : Content → Content → Type 0
Keeps less more = (content : List ℕ) → less ≡ Ok content → more ≡ Ok content

pub value_extends : (before now : HeapState) (value : Val)
    → Extends before now
    → IsValueOf before value
    → IsValueOf now value
value_extends before now val.None grows stands = tt
value_extends before now (val.Bool flag) grows stands = tt
value_extends before now (val.Int number) grows stands = tt
value_extends before now (val.Cell number) grows stands =
    elim (slice_get_cases before.cells number).1 [
      | inl there ↦ let one = grows.each number there.0 there.2 in
          slice_get_within now.cells number one.later one.stands
      | inr past ↦ absurd (omega (arith, past.0, stands))
    ]

behind_keeps : (front rest front_now rest_now : Content)
    → Keeps front front_now
    → Keeps rest rest_now
    → Keeps (behind front rest) (behind front_now rest_now)
behind_keeps (Ok text) (Ok texts) front_now rest_now front_is rest_is content is =
    rw (front_is text refl, rest_is texts refl) is
behind_keeps (Ok text) (Err reason) front_now rest_now front_is rest_is content is = absurd (cc)
behind_keeps (Err reason) rest front_now rest_now front_is rest_is content is = absurd (cc)

each_keeps : (less more : Val → Content) (items : List Val)
    → ((item : Val) → Keeps (less item) (more item))
    → Keeps (each_content less items) (each_content more items)
each_keeps less more [] each content is = is
each_keeps less more (item ∷ items) each content is =
    behind_keeps (less item) (each_content less items) (more item) (each_content more items)
    (each item) (each_keeps less more items each) content is

bracketed_keeps : (less more : Content) → Keeps less more → Keeps (bracketed less) (bracketed more)
bracketed_keeps (Ok text) more keeps content is = rw (keeps text refl) is
bracketed_keeps (Err reason) more keeps content is = absurd (cc)

marked_keeps : (less more : Content) → Keeps less more → Keeps (marked less) (marked more)
marked_keeps (Ok text) more keeps content is = rw (keeps text refl) is
marked_keeps (Err reason) more keeps content is = absurd (cc)

cell_keeps : (less more : List Val → Content) (one : Cell)
    → ((items : List Val) → Keeps (less items) (more items))
    → Keeps (cell_content less (Some one)) (cell_content more (Some one))
cell_keeps less more (cell.Text text) each content is = is
cell_keeps less more (cell.List items) each content is = absurd (cc)
cell_keeps less more (cell.Tuple items) each content is = each items content is
cell_keeps less more (cell.Dict entries) each content is = absurd (cc)
cell_keeps less more (cell.Range first stop step) each content is = absurd (cc)
cell_keeps less more (cell.Function function) each content is = absurd (cc)
cell_keeps less more (cell.Builtin name) each content is = absurd (cc)
cell_keeps less more (cell.Bound receiver method) each content is = absurd (cc)
cell_keeps less more (cell.Struct fields) each content is = absurd (cc)
cell_keeps less more (cell.Label label) each content is = is
cell_keeps less more (cell.Path repo segments) each content is = absurd (cc)
cell_keeps less more (cell.Host kind fields) each content is = absurd (cc)

becoming_keeps : (less more : List Val → Content) (one other : Cell)
    → ((items : List Val) → Keeps (less items) (more items))
    → Becomes one other
    → Keeps (cell_content less (Some one)) (cell_content more (Some other))
becoming_keeps less more one other each Becomes.stays content is =
    cell_keeps less more one each content is
becoming_keeps less more one other each Becomes.list content is = absurd (cc)
becoming_keeps less more one other each Becomes.dictionary content is = absurd (cc)

held_keeps : (less more : List Val → Content) (before now : HeapState) (number : ℕ)
    (held : Option HeapCell)
    → ((items : List Val) → Keeps (less items) (more items))
    → Extends before now
    → slice_get before.cells number ≡ held
    → Keeps (cell_content less (option_map (λ one. one.cell) held))
    (cell_content more (cell_at now (val.Cell number)))
held_keeps less more before now number None each grows there content is = absurd (cc)
held_keeps less more before now number (Some held) each grows there content is =
    let one = grows.each number held there in
    rw (one.stands) (becoming_keeps less more held.cell one.later.cell each one.becomes content is)

value_keeps : (less more : List Val → Content) (before now : HeapState) (value : Val)
    → ((items : List Val) → Keeps (less items) (more items))
    → Extends before now
    → Keeps (value_content less before value) (value_content more now value)
value_keeps less more before now val.None each grows content is = is
value_keeps less more before now (val.Bool true) each grows content is = is
value_keeps less more before now (val.Bool false) each grows content is = is
value_keeps less more before now (val.Int number) each grows content is = is
value_keeps less more before now (val.Cell number) each grows content is =
    held_keeps less more before now number (slice_get before.cells number) each grows refl content
    is

pub content_keeps : (depth : ℕ) (before now : HeapState) (value : Val)
    → Extends before now
    → Keeps (content_within depth before value) (content_within depth now value)
unfolding content_within
content_keeps zero before now value grows =
    value_keeps (λ items. Err fault.Depth) (λ items. Err fault.Depth) before now value
    (λ items content is. is) grows
content_keeps (suc depth) before now value grows =
    value_keeps (λ items. bracketed (each_content (content_within depth before) items))
    (λ items. bracketed (each_content (content_within depth now) items)) before now value
    (λ items. bracketed_keeps (each_content (content_within depth before) items)
    (each_content (content_within depth now) items)
    (each_keeps (content_within depth before) (content_within depth now) items
    (λ item. content_keeps depth before now item grows)))
    grows

-- what becomes of a cell has the text that it has
text_becomes : (one other : Cell) → Becomes one other → text_in (Some other) ≡ text_in (Some one)
text_becomes one other Becomes.stays = refl
text_becomes one other Becomes.list = refl
text_becomes one other Becomes.dictionary = refl

by_text : (before now : HeapState) (value : Val) (text text_now : Option (List ℕ))
    → Extends before now
    → text_now ≡ text
    → Keeps (content_by text before value) (content_by text_now now value)
by_text before now value (Some text) text_now grows same content is = rw same is
by_text before now value None text_now grows same content is =
    rw same (marked_keeps (content_within deepest before value) (content_within deepest now value)
    (content_keeps deepest before now value grows) content is)

content_of_none : (heap : HeapState) (number : ℕ)
    → slice_get heap.cells number ≡ None
    → content_within deepest heap (val.Cell number) ≡ Err fault.Kind
unfolding content_within
content_of_none heap number none = rw none refl

-- a value without a cell is no key
key_of_none : (heap : HeapState) (number : ℕ) (content : List ℕ)
    → slice_get heap.cells number ≡ None
    → key_content heap (val.Cell number) ≡ Ok content
    → ⊥
key_of_none heap number content none is =
    let by_none : key_content heap (val.Cell number)
    ≡ marked (content_within deepest heap (val.Cell number)) =
    ap (λ found. content_by (text_in (option_map (λ it. it.cell) found)) heap
    (val.Cell number)) none in
    let refused : key_content heap (val.Cell number) ≡ Err fault.Kind =
    by_none ∙ ap marked (content_of_none heap number none) in
    absurd (cc)

held_key_keeps : (before now : HeapState) (number : ℕ) (held : Option HeapCell)
    → Extends before now
    → slice_get before.cells number ≡ held
    → Keeps (key_content before (val.Cell number)) (key_content now (val.Cell number))
held_key_keeps before now number None grows there content is =
    absurd (key_of_none before number content there is)
held_key_keeps before now number (Some held) grows there content is =
    let one = grows.each number held there in
    let was : text_in (cell_at before (val.Cell number)) ≡ text_in (Some held.cell) =
    ap (λ found. text_in (option_map (λ it. it.cell) found)) there in
    let now_is : text_in (cell_at now (val.Cell number)) ≡ text_in (Some one.later.cell) =
    ap (λ found. text_in (option_map (λ it. it.cell) found)) one.stands in
    by_text before now (val.Cell number) (text_in (cell_at before (val.Cell number)))
    (text_in (cell_at now (val.Cell number))) grows
    (now_is ∙ text_becomes held.cell one.later.cell one.becomes ∙ sym was) content is

pub key_keeps : (before now : HeapState) (value : Val)
    → Extends before now
    → Keeps (key_content before value) (key_content now value)
key_keeps before now val.None grows = by_text before now val.None None None grows refl
key_keeps before now (val.Bool flag) grows =
    by_text before now (val.Bool flag) None None grows refl
key_keeps before now (val.Int number) grows =
    by_text before now (val.Int number) None None grows refl
key_keeps before now (val.Cell number) grows =
    held_key_keeps before now number (slice_get before.cells number) grows refl

method_becomes : (one other : Cell) (method : List ℕ)
    → Becomes one other
    → has_method (Some other) method ≡ has_method (Some one) method
method_becomes one other method Becomes.stays = refl
method_becomes one other method Becomes.list = refl
method_becomes one other method Becomes.dictionary = refl

held_method : (before now : HeapState) (number : ℕ) (method : List ℕ) (held : Option HeapCell)
    → Extends before now
    → slice_get before.cells number ≡ held
    → IsTrue (has_method (option_map (λ it. it.cell) held) method)
    → IsTrue (has_method (cell_at now (val.Cell number)) method)
held_method before now number method None grows there has = absurd (cc)
held_method before now number method (Some held) grows there has =
    let one = grows.each number held there in
    let now_is : cell_at now (val.Cell number) ≡ Some one.later.cell =
    ap (option_map (λ it. it.cell)) one.stands in
    rw now_is (subst IsTrue (sym (method_becomes held.cell one.later.cell method one.becomes)) has)

method_extends : (before now : HeapState) (value : Val) (method : List ℕ)
    → Extends before now
    → IsTrue (has_method (cell_at before value) method)
    → IsTrue (has_method (cell_at now value) method)
method_extends before now val.None method grows has = has
method_extends before now (val.Bool flag) method grows has = has
method_extends before now (val.Int number) method grows has = has
method_extends before now (val.Cell number) method grows has =
    held_method before now number method (slice_get before.cells number) grows refl has

-- a cell that is good in a heap is good in each that has all its cells
pub cell_extends : (round : Surroundings) (before now : HeapState) (one : Cell)
    → Extends before now
    → IsCellOf round before one
    → IsCellOf round now one
cell_extends round before now (cell.Text text) grows stands = tt
cell_extends round before now (cell.List items) grows stands =
    All-weaker (IsValueOf before) (IsValueOf now)
    (λ item is. value_extends before now item grows is) items stands
cell_extends round before now (cell.Tuple items) grows stands =
    All-weaker (IsValueOf before) (IsValueOf now)
    (λ item is. value_extends before now item grows is) items stands
cell_extends round before now (cell.Dict entries) grows stands =
    record {
      each = All-weaker (IsEntryOf before) (IsEntryOf now)
          (λ entry is. record {
            key_stands = value_extends before now entry.pair.key grows is.key_stands;
            value_stands = value_extends before now entry.pair.value grows is.value_stands;
            content_stands = key_keeps before now entry.pair.key grows entry.content
                is.content_stands;
          }) entries stands.each;
      differ = stands.differ;
    }
cell_extends round before now (cell.Range first stop step) grows stands = stands
cell_extends round before now (cell.Function function) grows stands =
    record {
      file = stands.file;
      code = stands.code;
      file_stands = stands.file_stands;
      well_formed = stands.well_formed;
      code_stands = stands.code_stands;
      name_stands = stands.name_stands;
      defaults_stand = stands.defaults_stand;
      values_stand = All-weaker (IsValueOf before) (IsValueOf now)
          (λ item is. value_extends before now item grows is) function.defaults
          stands.values_stand;
      scope_stands = stands.scope_stands;
    }
cell_extends round before now (cell.Builtin name) grows stands = stands
cell_extends round before now (cell.Bound receiver method) grows stands = (
  value_extends before now receiver grows stands.0,
  method_extends before now receiver method grows stands.1,
)
cell_extends round before now (cell.Struct fields) grows stands =
    record {
      values_stand = All-weaker (λ field. IsValueOf before field.val)
          (λ field. IsValueOf now field.val)
          (λ field is. value_extends before now field.val grows is) fields stands.values_stand;
      differ = stands.differ;
    }
cell_extends round before now (cell.Label label) grows stands = stands
cell_extends round before now (cell.Path repo segments) grows stands = stands
cell_extends round before now (cell.Host kind fields) grows stands =
    record {
      values_stand = All-weaker (λ field. IsValueOf before field.val)
          (λ field. IsValueOf now field.val)
          (λ field is. value_extends before now field.val grows is) fields stands.values_stand;
      differ = stands.differ;
    }
