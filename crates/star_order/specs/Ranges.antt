-- Ranges compared as sequences of numbers: the Starlark specification, "range".
use Rattle.std.specs.Prelude.{ℕ, ℤ, Bool, true, false, ◌&&◌, if◌then◌else◌, nat_eq}
use Rattle.std.specs.Ordering.{int_eq}
use Rattle.star_library.specs.Ranges.{range_length}

-- whether two sequences of so many numbers, each a step from the one before, are one: without
-- numbers they are, the first decides where it is the only one, and else the step too
abbrev pub same_steps : ℕ → ℤ → ℤ → ℤ → ℤ → Bool
same_steps count first step other_first other_step =
    if nat_eq count 0 then true
    else (if nat_eq count 1 then int_eq first other_first
    else int_eq first other_first && int_eq step other_step)

-- whether sequences of so many numbers and of so many are one
abbrev pub same_counted : (count other_count : ℕ) → ℤ → ℤ → ℤ → ℤ → Bool
same_counted count other_count first step other_first other_step =
    if nat_eq count other_count then same_steps count first step other_first other_step else false

-- whether two ranges have the same numbers
unfoldable pub same_range : ℤ → ℤ → ℤ → ℤ → ℤ → ℤ → Bool
same_range first stop step other_first other_stop other_step =
    same_counted (range_length first stop step) (range_length other_first other_stop other_step)
    first step other_first other_step
