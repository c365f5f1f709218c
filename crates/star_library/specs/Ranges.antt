-- The arithmetic of ranges: the Starlark specification, "range".
use Rattle.std.specs.Prelude.{ℕ, zero, suc, ℤ, pos, ◌+ℤ◌, ◌-ℤ◌, Bool, ◌&&◌, ◌||◌, int_lt}
use Rattle.std.specs.Prelude.{unsigned_abs, if◌then◌else◌, List, [], ◌∷◌}
use Rattle.std.specs.Int.{div_ceil}

-- the step leads from the first number towards the stop
abbrev pub leads_on : ℤ → ℤ → ℤ → Bool
leads_on first stop step =
    (int_lt (pos 0) step && int_lt first stop) || (int_lt step (pos 0) && int_lt stop first)

-- how many numbers a range has: so many steps reach the stop, or pass it
abbrev pub range_length : ℤ → ℤ → ℤ → ℕ
range_length first stop step =
    if leads_on first stop step
    then div_ceil (unsigned_abs (stop -ℤ first)) (unsigned_abs step)
    else 0

-- so many numbers, each a step behind the one before it
unfoldable pub steps_from : ℕ → ℤ → ℤ → List ℤ
steps_from zero first step = []
steps_from (suc count) first step = first ∷ steps_from count (first +ℤ step) step

-- the numbers of a range
abbrev pub range_items : ℤ → ℤ → ℤ → List ℤ
range_items first stop step = steps_from (range_length first stop step) first step
