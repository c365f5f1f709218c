-- Which calls of an object in memory fail.
use Rattle.std.specs.Prelude.{ℕ, ◌+◌, ◌==◌, Bool, min, List, [], ◌∷◌, ◌++◌}
use Rattle.std.specs.List.{list_any}
use Rattle.bz_base.specs.Counts.{counted, last_count}

-- calls that were made and may fail: how many there were, and the numbers of those that fail
pub record Plan : Type 0 where
  pub made : ℕ
  pub failing : List ℕ

-- the next call fails
abbrev pub fails_next : Plan → Bool
fails_next plan = list_any (λ number. number == counted plan.made) plan.failing

-- one more call was made
abbrev pub one_made : Plan → Plan
one_made plan = record { made = counted plan.made; failing = plan.failing }

-- the nth call from now fails too
abbrev pub with_failing : Plan → ℕ → Plan
with_failing plan nth = record {
  made = plan.made;
  failing = plan.failing
      ++ min (plan.made + nth) last_count ∷ [];
}

-- no call was made, and none fails
abbrev pub no_plan : Plan
no_plan = record { made = 0; failing = [] }
