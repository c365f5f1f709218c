use Rattle.std.proofs.Common.{◌≡◌, ap, sym, ◌∙◌, arith, ◌-◌, ◌+◌, ◌++◌, length, Some, option_map}
use Rattle.std.proofs.lemmas.List.{append-nil}
use Rattle.board_machine.specs.Boards.{walk, next_at}
use Rattle.board_slots.proofs.Ways.{way_here, way_stops, way_ends, way_goes}
use Rattle.board_slots.proofs.chains.way_to.Goals as goal

pub returns-then-at-goal : goal.returns-then-at-goal
returns-then-at-goal g c =
    let next = next_at c.args.slots.now in
    let so = c.loop-step.places.items in
    sym (c.loop-step.invariant ∙ ap (option_map (λ rest. so ++ rest)) (way_here next c.args.goal (length c.args.slots.now - c.loop-step.step) c.loop-step.at c.if-at-goal.true) ∙ ap (λ x. Some x) (append-nil so))

pub returns-in-None : goal.returns-in-None
returns-in-None g c =
    let next = next_at c.args.slots.now in
    let so = c.loop-step.places.items in
    sym (c.loop-step.invariant ∙ ap (option_map (λ rest. so ++ rest)) (way_stops next c.args.goal (length c.args.slots.now - c.loop-step.step) c.loop-step.at c.if-at-goal.false (sym c.in-None.ensures)))

pub loop-step-preserved : goal.loop-step-preserved
loop-step-preserved g c =
    let next = next_at c.args.slots.now in
    let so = c.loop-step.places.items in
    let all = length c.args.slots.now in
    c.loop-step.invariant ∙ way_goes next c.args.goal all c.loop-step.step c.loop-step.at c.in-Some.other so c.loop-step-test.true c.if-at-goal.false (sym c.in-Some.ensures)
    ∙ ap (λ xs. option_map (λ rest. xs ++ rest) (walk next c.args.goal (all - (c.loop-step.step + 1)) c.in-Some.other)) (sym c.in_ok-push-in-Some.ensures.items)

pub returns-then-at-goal-2 : goal.returns-then-at-goal-2
returns-then-at-goal-2 g c =
    let next = next_at c.args.slots.now in
    let so = c.loop-step.places.items in
    sym (c.loop-step.invariant ∙ ap (option_map (λ rest. so ++ rest)) (way_here next c.args.goal (length c.args.slots.now - c.loop-step.step) c.loop-step.at c.if-at-goal-2.true) ∙ ap (λ x. Some x) (append-nil so))

pub returns : goal.returns
returns g c =
    let next = next_at c.args.slots.now in
    let so = c.loop-step.places.items in
    let left : length c.args.slots.now - c.loop-step.step ≡ 0 = omega (arith, c.loop-step-test.false) in
    sym (c.loop-step.invariant ∙ ap (λ n. option_map (λ rest. so ++ rest) (walk next c.args.goal n c.loop-step.at)) left
    ∙ ap (option_map (λ rest. so ++ rest)) (way_ends next c.args.goal c.loop-step.at c.if-at-goal-2.false))
