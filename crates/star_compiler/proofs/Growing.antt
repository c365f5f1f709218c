-- The tables of the pass only grow.
use Rattle.std.proofs.Common.{◌≡◌, ◌∙◌, refl, ℕ, zero, suc, List, [], ◌∷◌, ◌++◌}
use Rattle.std.proofs.Common.{length, slice_get, Some, Result, Ok, Err, OnOk, IfOk}
use Rattle.star_code.specs.Codes.{Tables}
use Rattle.star_compiler.specs.Emitted.{Extends, Grows}
use Rattle.star_compiler.specs.Emitted.{HasMoreCells, tables_in}
use Rattle.star_core.specs.Heaps.{HeapState}
use Rattle.star_compiler.specs.declared.emitter.Emitter.{Emitter}

pub extends_same : (t : Tables) → Extends t t
extends_same t =
    record {
      blocks = λ block code there. there;
      names = λ index name there. there;
      shapes = λ index ways there. there;
      literals = λ text value there. there;
      least = refl;
    }

pub extends_both : (a b c : Tables) → Extends a b → Extends b c → Extends a c
extends_both a b c first more =
    record {
      blocks = λ block code there. more.blocks block code (first.blocks block code there);
      names = λ index name there. more.names index name (first.names index name there);
      shapes = λ index ways there. more.shapes index ways (first.shapes index ways there);
      literals = λ text value there. more.literals text value (first.literals text value there);
      least = more.least ∙ first.least;
    }

cells_same : (heap : HeapState) → HasMoreCells heap heap
cells_same heap =
    record { cells = λ number held there. there; frozen = refl; sum = refl }

cells_both : (a b c : HeapState) → HasMoreCells a b → HasMoreCells b c → HasMoreCells a c
cells_both a b c first more =
    record {
      cells = λ number held there. more.cells number held (first.cells number held there);
      frozen = more.frozen ∙ first.frozen;
      sum = more.sum ∙ first.sum;
    }

pub grows_same : (emitter : Emitter) → Grows emitter emitter
grows_same emitter =
    record {
      tables = extends_same (tables_in emitter);
      heap = cells_same emitter.heap;
      literals = λ are. are;
    }

pub grows_both : {a b c : Emitter} → Grows a b → Grows b c → Grows a c
grows_both {a} {b} {c} first more =
    record {
      tables = extends_both (tables_in a) (tables_in b) (tables_in c) first.tables more.tables;
      heap = cells_both a.heap b.heap c.heap first.heap more.heap;
      literals = λ are. more.literals (first.literals are);
    }

-- what holds over all that the later tables hold holds over all that the earlier ones do
pub later_tables : {a b : Emitter} (t : Tables)
    → Grows a b
    → Extends (tables_in b) t
    → Extends (tables_in a) t
later_tables {a} {b} t grows extends =
    extends_both (tables_in a) (tables_in b) t grows.tables extends

pub on_ok : {A E : Type 0} (r : Result A E) (P Q : Type 0) → (P → Q) → OnOk r P → OnOk r Q
on_ok (Ok value) P Q next holds = next holds
on_ok (Err reason) P Q next holds = tt

pub if_ok : {A E : Type 0} (r : Result A E) (P Q : A → Type 0)
    → ((value : A) → P value → Q value)
    → IfOk r P
    → IfOk r Q
if_ok (Ok value) P Q next holds = next value holds
if_ok (Err reason) P Q next holds = tt

pub front_stays : {X : Type 0} (xs ys : List X) (index : ℕ) (x : X)
    → slice_get xs index ≡ Some x
    → slice_get (xs ++ ys) index ≡ Some x
front_stays [] ys index x there = cc
front_stays (first ∷ xs) ys zero x there = there
front_stays (first ∷ xs) ys (suc index) x there = front_stays xs ys index x there

pub last_stands : {X : Type 0} (xs : List X) (x : X)
    → slice_get (xs ++ x ∷ []) (length xs) ≡ Some x
last_stands [] x = refl
last_stands (first ∷ xs) x = last_stands xs x
