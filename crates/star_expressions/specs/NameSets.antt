-- Sets of names, beside the names that were put into them.
use Rattle.std.specs.Prelude.{◌≡◌, ℕ, Bool, true, false, List, Option, bytes_eq, String}
use Rattle.std.specs.List.{list_any}
use Rattle.std.specs.BTreeSet.{BTreeSet, contains_text}
use Rattle.std.specs.declared.alloc.Global.{Global}
use Rattle.star_trees.specs.Lists.{all_new, with_name}

-- the set has these names and no others
abbrev pub Holds : BTreeSet (String Global) → List (List ℕ) → Type 0
Holds set names = (name : List ℕ)
    → contains_text set name ≡ list_any (λ other. bytes_eq other name) names

-- a set after a name, if there is one, was put into it, and whether that was new
pub record Adds (name : Option (List ℕ)) (old new : BTreeSet (String Global))
    (fresh : Bool) : Type 0 where
  pub added : fresh ≡ true
      → (before rest : List (List ℕ))
      → Holds old before
      → (after : List (List ℕ)) × Holds new after
      × (all_new before (with_name name rest) ≡ all_new after rest)
  pub known : fresh ≡ false
      → (before rest : List (List ℕ))
      → Holds old before
      → all_new before (with_name name rest) ≡ false
