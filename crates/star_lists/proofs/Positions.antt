-- Positions, item by item.
use Rattle.std.proofs.Common.{◌≡◌, ℕ, ◌+◌, ap, arith, refl, Result, Ok, Err}
use Rattle.star_core.specs.declared.faults.Fault.{Fault}
use Rattle.star_lists.specs.Searching.{shifted}

pub shifted_on : (front : ℕ) (rest : Result ℕ Fault)
    → shifted (front + 1) rest ≡ shifted front (shifted 1 rest)
shifted_on front (Ok index) =
    let same : front + 1 + index ≡ front + (1 + index) = omega arith in ap (λ (all : ℕ). Ok all) same
shifted_on front (Err reason) = refl
