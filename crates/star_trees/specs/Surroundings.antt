-- What stands round a statement, which says where `break`, `continue`, `return` and `load` may
-- stand.
use Rattle.std.specs.Prelude.{true, false}
use Rattle.star_trees.specs.declared.inside.Inside.{Inside}

-- at the top of a file
abbrev pub at_top : Inside
at_top = record { top = true; function = false; looping = false }

-- in a branch of an `if`
abbrev pub in_branch : Inside → Inside
in_branch inside = record { top = false; function = inside.function; looping = inside.looping }

-- in the body of a `for`
abbrev pub in_loop : Inside → Inside
in_loop inside = record { top = false; function = inside.function; looping = true }

-- in the body of a `def`
abbrev pub in_function : Inside
in_function = record { top = false; function = true; looping = false }
