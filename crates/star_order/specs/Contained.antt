-- What is asked of the items of containers: a rule for two values, which is missing where
-- containers nest deeper than they may.
use Rattle.std.specs.Prelude.{Option, Result}
use Rattle.star_core.specs.declared.faults.Fault.{Fault}
use Rattle.star_core.specs.declared.values.Val.{Val}

-- a rule for two values, which may be refused
abbrev pub Rule : Type 0 → Type 0
Rule A = Val → Val → Result A Fault

-- the rule for what lies inside a container; there is none where containers nest too deep
abbrev pub Inside : Type 0 → Type 0
Inside A = Option (Rule A)
