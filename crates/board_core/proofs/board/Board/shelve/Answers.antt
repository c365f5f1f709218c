use Rattle.std.proofs.Common.{◌≡◌, ◌∙◌, sym, true, slice_get}
use Rattle.board_slots.specs.Needs.{is_open_at}
use Rattle.board_core.proofs.Keeping.{open_at_is, shelved_kept, unchanged_kept}
use Rattle.board_core.proofs.board.Board.shelve.Goals as goal

pub invariant_of-self : goal.invariant_of-self
invariant_of-self g c =
    unchanged_kept (g.W.Work.meaning g.N.BoardOf.work) g.N.BoardOf.files g.N.BoardOf.goals
    c.self.inside.table c.shelve.new.self c.in_err-shelve.ensures.0 c.in_err-shelve.ensures.1
    c.self.invariant

pub invariant_of-self-2 : goal.invariant_of-self-2
invariant_of-self-2 g c =
    let needs = c.self.inside.table.account.board.needs in
    let unanswered : is_open_at c.args.path.now (slice_get needs c.args.need) ≡ true =
    sym c.is_open_at.ensures ∙ c.if-not-is_open_at.false in
    shelved_kept (g.W.Work.meaning g.N.BoardOf.work) g.N.BoardOf.files g.N.BoardOf.goals
    (λ file. (g.met.W.Work g.world.𝓛 g.world.𝓜 g.world.𝓡 ((λ s x. x), (λ x. x), (λ x. x), λ x. x)).lawful g.N.BoardOf.work file)
    c.self.inside.table c.shelve.new.self c.args.need c.args.path.now c.args.found
    (open_at_is c.args.path.now needs c.args.need unanswered) c.requires
    c.in_ok-shelve.ensures.0 c.in_ok-shelve.ensures.1 c.self.invariant
