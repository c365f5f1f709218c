use Rattle.std.proofs.Common.{length, ◌∙◌, ◌++◌, ◌∷◌, [], ap, sym, rules}
use Rattle.std.specs.Prelude.{is_some}
use Rattle.board_machine.specs.Events
use Rattle.board_machine.specs.Moves.{hand_file, shelve_need, shelved_state}
use Rattle.board_core.proofs.Events.{goals_kept, noted_of}
use Rattle.board_core.proofs.table.Table.shelve.Goals as goal

pub invariant_of-self-2 : goal.invariant_of-self-2
invariant_of-self-2 g c =
    goals_kept (λ at slot. record {
      job = slot.job;
      state = shelved_state c.args.need c.args.found slot.state;
    })
    c.self.inside.goals c.self.inside.jobs c.hand_out.new.self
    (c.in_ok-hand_out.ensures.handed ∙ c.in_ok-gifts.ensures
    ∙ ap (λ f. hand_file c.args.need f c.self.inside.jobs) c.in_ok-found.ensures.ok) c.self.invariant

pub returns : goal.returns
returns g c =
    noted_of (λ at slot. record {
      job = slot.job;
      state = shelved_state c.args.need c.args.found slot.state;
    }) (shelve_need c.args.need c.args.found)
    c.self.inside.goals c.self.inside.jobs c.hand_out.new.self
    c.self.inside.needs.items c.answer.new.needs.items
    (is_some c.self.inside.stop) c.self.inside.journal.events
    c.write.new.self.events c.self.inside.spent
    c.self.inside.journal.room c.make_room.new.self.room c.write.new.self.room (length c.slots.result.now)
    c.args.self.now (Events.Shelve c.args.need) c.self.view_is
    (c.in_ok-hand_out.ensures.handed ∙ c.in_ok-gifts.ensures
    ∙ ap (λ f. hand_file c.args.need f c.self.inside.jobs) c.in_ok-found.ensures.ok)
    (c.answer.ensures ∙ ap (λ f. shelve_need c.args.need f c.self.inside.needs.items) c.in_ok-found.ensures.ok)
    (c.write.ensures.written ∙ ap (λ events. events ++ Events.Shelve c.args.need ∷ []) c.make_room.ensures.kept)
    (search rules) (search rules) c.write.ensures.room
