use Rattle.std.proofs.Common.{◌∙◌, ap, sym, subst, slice_get, Ok, Err}
use Rattle.board_slots.specs.Claims.{is_held}
use Rattle.board_work.specs.Turns.{rules_of}
use Rattle.board_core.specs.Histories.{IsOutcomeOf}
use Rattle.board_core.proofs.Keeping.{finished_kept}
use Rattle.board_core.proofs.board.Board.finish.Goals as goal

pub invariant_of-self : goal.invariant_of-self
invariant_of-self g c =
    let meaning = g.W.Work.meaning g.N.BoardOf.work in
    let held = c.args.held in
    let slots = c.self.inside.table.account.board.slots in
    finished_kept meaning g.N.BoardOf.files g.N.BoardOf.goals
    (λ file. (g.met.W.Work g.world.𝓛 g.world.𝓜 g.world.𝓡 ((λ s x. x), (λ x. x), (λ x. x), λ x. x)).lawful g.N.BoardOf.work file)
    c.self.inside.table c.finish_value.new.self held.job held.worker held.answers held.place
    c.args.spent (Ok c.in-Ok.value)
    (ap (λ w. is_held (g.W.Work.meaning w).text held.job held.worker held.answers (slice_get slots held.place)) (sym c.requires.named)
    ∙ sym c.holds.ensures ∙ c.if-not-holds.false)
    c.requires.own
    (λ file e. subst (λ o. IsOutcomeOf (rules_of meaning file) meaning.ticks held.job held.answers o c.args.spent) c.in-Ok.is (c.requires.outcome file e))
    c.in_ok-finish_value-in-Ok.ensures.0 c.in_ok-finish_value-in-Ok.ensures.1 c.self.invariant

pub invariant_of-self-in-Continue-branch-2 : goal.invariant_of-self-in-Continue-branch-2
invariant_of-self-in-Continue-branch-2 g c =
    let meaning = g.W.Work.meaning g.N.BoardOf.work in
    let held = c.args.held in
    let slots = c.self.inside.table.account.board.slots in
    finished_kept meaning g.N.BoardOf.files g.N.BoardOf.goals
    (λ file. (g.met.W.Work g.world.𝓛 g.world.𝓜 g.world.𝓡 ((λ s x. x), (λ x. x), (λ x. x), λ x. x)).lawful g.N.BoardOf.work file)
    c.self.inside.table c.finish_refused.new.self held.job held.worker held.answers held.place
    c.args.spent (Err c.in-Err.refusal)
    (ap (λ w. is_held (g.W.Work.meaning w).text held.job held.worker held.answers (slice_get slots held.place)) (sym c.requires.named)
    ∙ sym c.holds.ensures ∙ c.if-not-holds.false)
    c.requires.own
    (λ file e. subst (λ o. IsOutcomeOf (rules_of meaning file) meaning.ticks held.job held.answers o c.args.spent) c.in-Err.is (c.requires.outcome file e))
    c.in_ok-finish_refused-in-Err.ensures.0 c.in_ok-finish_refused-in-Err.ensures.1
    c.self.invariant
