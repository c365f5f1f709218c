use Rattle.std.proofs.Common.{◌≡◌, ap, sym, ◌∙◌, arith, ◌-◌, length}
use Rattle.std.specs.Prelude.{is_some}
use Rattle.board_machine.specs.Boards.{next_at, walk}
use Rattle.board_slots.proofs.Ways.{way_here, way_stops, leads_ends, leads_on}
use Rattle.board_slots.proofs.chains.leads_to.Goals as goal

pub returns-then-at-goal : goal.returns-then-at-goal
returns-then-at-goal g c =
    sym (c.loop-step.invariant ∙ ap is_some (way_here (next_at c.args.slots.now) c.args.goal
    (length c.args.slots.now - c.loop-step.step) c.loop-step.at c.if-at-goal.true))

pub returns-in-None : goal.returns-in-None
returns-in-None g c =
    sym (c.loop-step.invariant ∙ ap is_some (way_stops (next_at c.args.slots.now) c.args.goal
    (length c.args.slots.now - c.loop-step.step) c.loop-step.at c.if-at-goal.false
    (sym c.in-None.ensures)))

pub loop-step-preserved : goal.loop-step-preserved
loop-step-preserved g c =
    c.loop-step.invariant
    ∙ leads_on (next_at c.args.slots.now) c.args.goal (length c.args.slots.now) c.loop-step.step
    c.loop-step.at c.in-Some.other c.loop-step-test.true c.if-at-goal.false (sym c.in-Some.ensures)

pub returns : goal.returns
returns g c =
    let next = next_at c.args.slots.now in
    let left : length c.args.slots.now - c.loop-step.step ≡ 0 = omega (arith, c.loop-step-test.false)
    in
    sym (c.loop-step.invariant
    ∙ ap (λ n. is_some (walk next c.args.goal n c.loop-step.at)) left
    ∙ leads_ends next c.args.goal c.loop-step.at)
