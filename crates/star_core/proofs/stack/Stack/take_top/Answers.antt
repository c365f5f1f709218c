use Rattle.std.proofs.Common.{length, ◌-◌, arith}
use Rattle.std.proofs.lemmas.List.{length-reverse}
use Rattle.star_core.proofs.Tops.{taken_none, taken_split}
use Rattle.star_core.proofs.stack.Stack.take_top.Goals as goal

pub returns-then-len-count : goal.returns-then-len-count
returns-then-len-count g c =
    taken_none _ _ _ (rw (← c.self.view_is) (rw length-reverse (omega arith)))

pub returns : goal.returns
returns g c =
    let split = c.in_ok-top.ensures in
    taken_split c.args.count (c.len-2.result - c.args.count) c.self.inside.items.items _ _ _
    (omega (arith, c.self.inside.items.ok.0)) split.tail split.items c.self.view_is
