-- Lists of items, list by list, and rows of them.
use Rattle.std.proofs.Common.{◌≡◌, ℕ, suc, ◌+◌, ◌-◌, ◌<◌, List, [], ◌∷◌, ◌++◌, append_assoc, ap}
use Rattle.std.proofs.Common.{arith, refl, Result, Ok, Err}
use Rattle.star_core.specs.Heaps.{HeapState}
use Rattle.star_core.specs.declared.faults.Fault.{Fault}
use Rattle.star_core.specs.declared.values.Val.{Val}
use Rattle.star_functions.specs.Sequences.{row_at, rows_made, with_first}
use Rattle.star_library.specs.Calls.{go_on, tuple_made}

-- lists in front of others
abbrev pub in_front : List (List Val) → Result (List (List Val)) Fault → Result (List (List Val)) Fault
in_front front (Ok rest) = Ok (front ++ rest)
in_front front (Err reason) = Err reason

pub in_front_one : (front : List (List Val)) (items : List Val)
    (rest : Result (List (List Val)) Fault)
    → in_front (front ++ items ∷ []) rest ≡ in_front front (with_first items rest)
in_front_one front items (Ok rest) = ap (λ all. Ok all) (append_assoc front (items ∷ []) rest)
in_front_one front items (Err reason) = refl

-- one more of the rows that are left
pub rows_next : (made : List Val) (count index : ℕ) (lists : List (List Val)) (heap : HeapState)
    → index < count
    → rows_made made (count - index) index lists heap
    ≡ go_on (tuple_made (row_at index lists) heap)
    (λ tuple. rows_made (made ++ tuple ∷ []) (count - (index + 1)) (index + 1) lists)
rows_next made count index lists heap within =
    let same : count - index ≡ suc (count - (index + 1)) = omega (arith, within) in
    ap (λ (left : ℕ). rows_made made left index lists heap) same
