use Rattle.std.proofs.Common.{◌≡◌, refl, subst, length, rules, slice_get, Some}
use Rattle.std.proofs.lemmas.Option.{slice_get_read}
use Rattle.board_slots.specs.Claims.{IsTaken}
use Rattle.board_jobs.proofs.jobs.take_at.Goals as goal

pub returns-clause-taken : goal.returns-clause-taken
returns-clause-taken g c =
    let slots = c.args.slots.now.items in
    let here = c.index_mut-slot.result.now in
    let stood : slice_get slots c.args.place ≡ Some here =
    slice_get_read slots (length slots) c.args.place here refl (search rules)
    c.index_mut-slot.ensures.value in
    λ slot stands. let same : here ≡ slot = cc in (
      c.claim.new.self,
      subst (λ s. IsTaken g.W.Work.job_of g.W.Work.answers_of c.args.worker c.args.place s c.claim.new.self c.claim.result) same c.claim.ensures,
      refl,
    )
