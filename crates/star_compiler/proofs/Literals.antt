-- A text that a file spells gets a cell of its own, and each earlier one keeps its.
use Rattle.std.proofs.Common.{◌≡◌, ◌∙◌, ap, refl, subst, sym, ℕ, Bool, true, false, List, [], ◌∷◌}
use Rattle.std.proofs.Common.{◌++◌, if◌then◌else◌, slice_get, Option, Some, None, option_map}
use Rattle.std.proofs.lemmas.Slice.Eq.{bytes_eq-Decides}
use Rattle.std.specs.Str.{bytes_eq}
use Rattle.star_compiler.proofs.Growing.{front_stays, last_stands}
use Rattle.star_compiler.specs.Emitted.{LiteralPut}
use Rattle.star_compiler.specs.declared.emitter.Emitter.{Emitter}
use Rattle.star_core.specs.Dicts.{Entry, entry_of, with_entry}
use Rattle.star_core.specs.Heaps.{HeapState, cell_at, next_value, with_cell}
use Rattle.star_core.specs.declared.cells.Cell.{Cell}
use Rattle.star_core.specs.declared.cells.Cell.TheVariants as cell
use Rattle.star_core.specs.declared.dict.Pair.{Pair}
use Rattle.star_core.specs.declared.heap.HeapCell.{HeapCell}
use Rattle.star_core.specs.declared.values.Val.{Val}
use Rattle.star_core.specs.declared.values.Val.TheVariants as val
use Rattle.star_meaning.specs.Expressions.{literal_of}

module _ (text : List ℕ) (pair : Pair) where
  abbrev Absent : List Entry → Type 0
  Absent entries = entry_of text entries ≡ None

  no_entry : (entry : Entry) (rest : Option Pair)
      → (own : Bool)
      → (if own then Some entry.pair else rest) ≡ None
      → (own ≡ false) × (rest ≡ None)
  no_entry entry rest true is = absurd (cc)
  no_entry entry rest false is = (refl, is)

  -- what had a cell has it still
  pub kept : (entries : List Entry)
      → Absent entries
      → (t : List ℕ) (value : Val)
      → literal_of entries t ≡ Some value
      → literal_of (with_entry text pair entries) t ≡ Some value
  kept [] absent t value is = absurd (cc)
  kept (e ∷ es) absent t value is =
      let apart = no_entry e (entry_of text es) (bytes_eq text e.content) absent in
      rw apart.0 (by (bytes_eq t e.content) is (kept es apart.1 t value))
    where
      by : (other : Bool)
          → option_map (λ p. p.value) (if other then Some e.pair else entry_of t es) ≡ Some value
          → (literal_of es t ≡ Some value
          → literal_of (with_entry text pair es) t ≡ Some value)
          → option_map (λ p. p.value)
          (if other then Some e.pair else entry_of t (with_entry text pair es)) ≡ Some value
      by true is further = is
      by false is further = further is

  -- the text has the new one
  pub found : (entries : List Entry)
      → Absent entries
      → literal_of (with_entry text pair entries) text ≡ Some pair.value
  found [] absent = rw ((bytes_eq-Decides text text).1 refl) refl
  found (e ∷ es) absent =
      let apart = no_entry e (entry_of text es) (bytes_eq text e.content) absent in
      rw (apart.0, apart.0) (found es apart.1)

  -- what holds of the text and of all that had a cell holds of all that have one
  pub each_stands : (P : List ℕ → Val → Type 0)
      → P text pair.value
      → (entries : List Entry)
      → Absent entries
      → (t : List ℕ) (value : Val)
      → (literal_of entries t ≡ Some value → P t value)
      → literal_of (with_entry text pair entries) t ≡ Some value
      → P t value
  each_stands P own [] absent t value old is = by (bytes_eq t text) refl is
    where
      by : (same : Bool)
          → bytes_eq t text ≡ same
          → option_map (λ p. p.value) (if same then Some pair else None) ≡ Some value
          → P t value
      by true same is =
          let texts : text ≡ t = sym ((bytes_eq-Decides t text).0 same) in
          let values : pair.value ≡ value = cc in
          subst (λ x. P x value) texts (subst (λ v. P text v) values own)
      by false same is = absurd (cc)
  each_stands P own (e ∷ es) absent t value old is =
      let apart = no_entry e (entry_of text es) (bytes_eq text e.content) absent in
      let there : option_map (λ p. p.value) (if bytes_eq t e.content then Some e.pair
      else entry_of t (with_entry text pair es)) ≡ Some value =
      subst (λ b. literal_of (if b then record { content = e.content; pair = pair } ∷ es
      else e ∷ with_entry text pair es) t ≡ Some value) apart.0 is in
      by (bytes_eq t e.content) old there (each_stands P own es apart.1 t value)
    where
      by : (other : Bool)
          → (option_map (λ p. p.value) (if other then Some e.pair else entry_of t es)
          ≡ Some value → P t value)
          → option_map (λ p. p.value)
          (if other then Some e.pair else entry_of t (with_entry text pair es)) ≡ Some value
          → ((literal_of es t ≡ Some value → P t value)
          → literal_of (with_entry text pair es) t ≡ Some value
          → P t value)
          → P t value
      by true old is further = old is
      by false old is further = further old is

-- a cell stays where another is made behind it
cell_stays : (heap : HeapState) (new : HeapCell) (sum : ℕ) (value : Val) (held : Cell)
    → cell_at heap value ≡ Some held
    → cell_at (record heap { cells = heap.cells ++ new ∷ []; sum = sum }) value ≡ Some held
cell_stays heap new sum val.None held is = is
cell_stays heap new sum (val.Bool flag) held is = is
cell_stays heap new sum (val.Int number) held is = is
cell_stays heap new sum (val.Cell number) held is =
    by (slice_get heap.cells number) refl is
  where
    by : (there : Option HeapCell)
        → slice_get heap.cells number ≡ there
        → option_map (λ cell. cell.cell) there ≡ Some held
        → option_map (λ cell. cell.cell) (slice_get (heap.cells ++ new ∷ []) number) ≡ Some held
    by None at is = absurd (cc)
    by (Some cell) at is = rw (front_stays heap.cells (new ∷ []) number cell at) is

-- a text's new cell, put into the table
pub literal_put : (text : List ℕ) (old new : Emitter) (value : Val) (pair : Pair)
    → entry_of text old.literals ≡ None
    → pair.value ≡ value
    → value ≡ next_value old.heap
    → new.heap ≡ with_cell (cell.Text text) old.heap.sum old.heap
    → new.literals ≡ with_entry text pair old.literals
    → new.blocks ≡ old.blocks
    → new.names ≡ old.names
    → new.shapes ≡ old.shapes
    → new.least ≡ old.least
    → LiteralPut text value old new
literal_put text old new value pair absent paired is heap literals blocks names shapes least =
    record {
      grows = record {
        tables = record {
          blocks = λ block code there. rw blocks there;
          names = λ index name there. rw names there;
          shapes = λ index ways there. rw shapes there;
          literals = λ t v there. rw literals (kept text pair old.literals absent t v there);
          least = least;
        };
        heap = record {
          cells = λ number held there. rw heap
              (front_stays old.heap.cells (record { cell = cell.Text text; walks = 0 } ∷ [])
              number held there);
          frozen = rw heap refl;
          sum = rw heap refl;
        };
        literals = λ are. record {
          each = λ t v there. rw heap
              (each_stands text pair (λ x u. cell_at (with_cell (cell.Text text) old.heap.sum
              old.heap) u ≡ Some (cell.Text x))
              (rw (paired, is)
              (ap (option_map (λ cell. cell.cell))
              (last_stands old.heap.cells (record { cell = cell.Text text; walks = 0 }))))
              old.literals absent t v
              (λ earlier. cell_stays old.heap _ old.heap.sum v (cell.Text t)
              (are.each t v earlier))
              (subst (λ l. literal_of l t ≡ Some v) literals there));
        };
      };
      there = rw literals (found text pair old.literals absent ∙ ap Some paired);
    }
