use Rattle.std.proofs.Common.{length, ◌==◌, ◌∙◌, ◌++◌, ◌∷◌, [], ap, sym, rules}
use Rattle.std.specs.Prelude.{if◌then◌else◌, is_some, false}
use Rattle.board_machine.specs.Boards.{Valued}
use Rattle.board_machine.specs.Events
use Rattle.board_machine.specs.Moves.{with_value, woken_state}
use Rattle.board_core.proofs.Events.{ended_of, goals_kept}
use Rattle.board_core.proofs.table.Table.finish_value.Goals as goal

pub invariant_of-self-2 : goal.invariant_of-self-2
invariant_of-self-2 g c =
    goals_kept (λ at slot. record {
      job = slot.job;
      state =
          if at == c.args.place then Valued c.args.value
          else woken_state c.args.place c.args.value slot.state;
    })
    c.self.inside.goals c.self.inside.jobs c.hand_out.new.self
    (c.in_ok-hand_out.ensures.handed ∙ c.in_ok-gifts.ensures
    ∙ ap (λ v. with_value c.args.place v c.self.inside.jobs) c.in_ok-value.ensures.ok) c.self.invariant

pub returns : goal.returns
returns g c =
    ended_of (λ slots at slot. record {
      job = slot.job;
      state =
          if at == c.args.place then Valued c.args.value
          else woken_state c.args.place c.args.value slot.state;
    })
    c.self.inside.goals c.self.inside.jobs c.hand_out.new.self
    c.self.inside.needs.items (is_some c.self.inside.stop) c.self.inside.journal.events
    c.write.new.self.events c.self.inside.spent c.saturating_add-self-inside.result
    c.self.inside.journal.room c.make_room.new.self.room c.write.new.self.room (length c.slots.result.now)
    c.args.self.now (Events.Finish c.args.worker c.args.place false) c.args.steps c.self.view_is
    (c.in_ok-hand_out.ensures.handed ∙ c.in_ok-gifts.ensures
    ∙ ap (λ v. with_value c.args.place v c.self.inside.jobs) c.in_ok-value.ensures.ok)
    (c.write.ensures.written ∙ ap (λ events. events ++ Events.Finish c.args.worker c.args.place false ∷ []) c.make_room.ensures.kept)
    (search rules) (search rules) (search rules) c.write.ensures.room
