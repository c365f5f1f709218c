-- What makes a rule for two values an order, wherever it has an answer.
use Rattle.std.specs.Prelude.{◌≡◌, Result, Ok, Err, ⊤}
use Rattle.std.specs.Ordering.{ordering_reverse}
use Rattle.std.specs.declared.cmp.Ordering.{Ordering}
use Rattle.std.specs.declared.cmp.Ordering.TheVariants.{Less, Equal, Greater}
use Rattle.star_core.specs.declared.faults.Fault.{Fault}
use Rattle.star_core.specs.declared.values.Val.{Val}
use Rattle.star_order.specs.Contained.{Rule}

-- what the order of a first value and a second one says of that of the second and the first: it is
-- the reversed one
abbrev pub Turned : Result Ordering Fault → Result Ordering Fault → Type 0
Turned (Ok order) back = back ≡ Ok (ordering_reverse order)
Turned (Err reason) back = ⊤

-- what two orders, of a first value and a middle one, and of that and a last one, say of the first
-- and the last: equals change nothing, and less than what is less is less
abbrev pub Follows : Ordering → Ordering → Result Ordering Fault → Type 0
Follows Equal second whole = whole ≡ Ok second
Follows Less Less whole = whole ≡ Ok Less
Follows Less Equal whole = whole ≡ Ok Less
Follows Less Greater whole = ⊤
Follows Greater Greater whole = whole ≡ Ok Greater
Follows Greater Equal whole = whole ≡ Ok Greater
Follows Greater Less whole = ⊤

-- the same of two answers, where neither is refused
abbrev pub Chained : Result Ordering Fault → Result Ordering Fault → Result Ordering Fault → Type 0
Chained (Ok first) (Ok second) whole = Follows first second whole
Chained (Ok first) (Err reason) whole = ⊤
Chained (Err reason) second whole = ⊤

-- an order: it turns round, and two answers one behind another make a third
pub record IsOrder (rule : Rule Ordering) : Type 0 where
  pub turns : (value other : Val) → Turned (rule value other) (rule other value)
  pub goes_on : (value middle other : Val)
      → Chained (rule value middle) (rule middle other) (rule value other)
