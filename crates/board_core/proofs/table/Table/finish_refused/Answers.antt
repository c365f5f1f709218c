use Rattle.std.proofs.Common.{length, ◌∙◌, ◌++◌, ◌∷◌, [], ap, refl, sym, rules}
use Rattle.std.specs.Prelude.{if◌then◌else◌, is_some, true}
use Rattle.board_machine.specs.Boards.{RefusedWith, way_to}
use Rattle.board_machine.specs.Events
use Rattle.board_machine.specs.Moves.{spread_refusal}
use Rattle.board_core.proofs.Events.{ended_of, goals_kept, nothing_happened}
use Rattle.board_core.proofs.table.Table.finish_refused.Goals as goal

pub invariant_of-self-2 : goal.invariant_of-self-2
invariant_of-self-2 g c =
    goals_kept (λ at slot.
    if is_some (way_to c.self.inside.jobs c.args.place at)
    then record { job = slot.job; state = RefusedWith c.args.refusal } else slot)
    c.self.inside.goals c.self.inside.jobs c.hand_out.new.self
    (c.in_ok-hand_out.ensures.handed ∙ c.in_ok-gifts.ensures
    ∙ ap (λ r. spread_refusal c.args.place r c.self.inside.jobs) c.in_ok-refusal.ensures.ok) c.self.invariant

pub returns : goal.returns
returns g c =
    ended_of (λ slots at slot.
    if is_some (way_to slots c.args.place at)
    then record { job = slot.job; state = RefusedWith c.args.refusal } else slot)
    c.self.inside.goals c.self.inside.jobs c.hand_out.new.self
    c.self.inside.needs.items (is_some c.self.inside.stop) c.self.inside.journal.events
    c.write.new.self.events c.self.inside.spent c.saturating_add-self-inside.result
    c.self.inside.journal.room c.make_room.new.self.room c.write.new.self.room (length c.slots.result.now)
    c.args.self.now (Events.Finish c.args.worker c.args.place true) c.args.steps c.self.view_is
    (c.in_ok-hand_out.ensures.handed ∙ c.in_ok-gifts.ensures
    ∙ ap (λ r. spread_refusal c.args.place r c.self.inside.jobs) c.in_ok-refusal.ensures.ok)
    (c.write.ensures.written ∙ ap (λ events. events ++ Events.Finish c.args.worker c.args.place true ∷ []) c.make_room.ensures.kept)
    (search rules) (search rules) (search rules) c.write.ensures.room

pub returns-in_err-make_room : goal.returns-in_err-make_room
returns-in_err-make_room g c =
    nothing_happened c.self.inside.goals c.self.inside.jobs c.self.inside.jobs
    c.self.inside.needs.items (is_some c.self.inside.stop) c.self.inside.journal.events
    c.make_room.new.self.events c.self.inside.spent c.self.inside.journal.room
    c.make_room.new.self.room c.args.self.now _ c.from_residual-in_err-make_room.result
    c.self.view_is refl c.make_room.ensures.kept c.make_room.ensures.no_less
    c.from_residual-in_err-make_room.ensures.0

pub returns-in_err-hand_out : goal.returns-in_err-hand_out
returns-in_err-hand_out g c =
    nothing_happened c.self.inside.goals c.self.inside.jobs c.hand_out.new.self
    c.self.inside.needs.items (is_some c.self.inside.stop) c.self.inside.journal.events
    c.make_room.new.self.events c.self.inside.spent c.self.inside.journal.room
    c.make_room.new.self.room c.args.self.now _ c.from_residual-in_err-hand_out.result
    c.self.view_is c.in_err-hand_out.ensures.unchanged c.make_room.ensures.kept
    c.make_room.ensures.no_less c.from_residual-in_err-hand_out.ensures.0
