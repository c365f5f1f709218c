use Rattle.std.proofs.Common.{◌≡◌, ◌≢◌, ◌∙◌, ◌++◌, ◌∷◌, [], ◌≤◌, ◌<◌, ◌+◌, ap, sym, subst, arith, length, rules}
use Rattle.std.specs.Prelude.{is_some, false}
use Rattle.board_machine.specs.Events
use Rattle.board_machine.specs.Moves.{first_queued, is_over}
use Rattle.board_core.specs.Claims.{ClaimGives, claim_count}
use Rattle.board_jobs.specs.Taking.{IsQueuedAt, IsTakenAt}
use Rattle.board_core.proofs.Events.{seen}
use Rattle.board_core.proofs.TableClaims.{claimed_of, queued_there, queued_within, taken_one}
use Rattle.board_core.proofs.table.Table.claim.Goals as goal

pub take-requires-clause-within : goal.take-requires-clause-within
take-requires-clause-within g c κs within =
    let slots = c.self.inside.jobs in
    let kept : c.first_queued-place.new.self ≡ slots =
    c.first_queued-place.ensures.kept ∙ c.are_over.ensures.kept in
    let is : c.first_queued-place.result ≡ first_queued slots =
    c.first_queued-place.ensures.first ∙ ap first_queued c.are_over.ensures.kept in
    let long : length c.slots.result.now ≡ length slots =
    ap length (c.slots.ensures ∙ kept) in
    let off : first_queued slots ≢ length slots =
    λ e. c.if-place-slots.false (is ∙ e ∙ sym long) in
    subst (λ xs. c.first_queued-place.result < length xs) (sym kept)
    (subst (λ n. n < length slots) (sym is) (queued_within slots off))

pub take-requires-clause-queued : goal.take-requires-clause-queued
take-requires-clause-queued g c κs within =
    let slots = c.self.inside.jobs in
    let kept : c.first_queued-place.new.self ≡ slots =
    c.first_queued-place.ensures.kept ∙ c.are_over.ensures.kept in
    let is : c.first_queued-place.result ≡ first_queued slots =
    c.first_queued-place.ensures.first ∙ ap first_queued c.are_over.ensures.kept in
    let long : length c.slots.result.now ≡ length slots =
    ap length (c.slots.ensures ∙ kept) in
    let off : first_queued slots ≢ length slots =
    λ e. c.if-place-slots.false (is ∙ e ∙ sym long) in
    subst (λ xs. IsQueuedAt c.first_queued-place.result xs) (sym kept)
    (subst (λ p. IsQueuedAt p slots) (sym is) (queued_there slots off))

pub returns-clause-gives : goal.returns-clause-gives
returns-clause-gives g c =
    let slots = c.self.inside.jobs in
    let account = seen c.self.inside.goals slots c.self.inside.needs.items
    (is_some c.self.inside.stop) c.self.inside.journal.events c.self.inside.spent in
    let kept : c.first_queued-place.new.self ≡ slots =
    c.first_queued-place.ensures.kept ∙ c.are_over.ensures.kept in
    let is : c.first_queued-place.result ≡ first_queued slots =
    c.first_queued-place.ensures.first ∙ ap first_queued c.are_over.ensures.kept in
    let long : length c.slots.result.now ≡ length slots =
    ap length (c.slots.ensures ∙ kept) in
    let off : first_queued slots ≢ length slots =
    λ e. c.if-place-slots.false (is ∙ e ∙ sym long) in
    let over : is_over account.board ≡ false = search rules in
    subst (λ t. ClaimGives g.W.Work.job_of g.W.Work.answers_of c.args.worker t.account
    (seen c.self.inside.goals c.take.new.self c.self.inside.needs.items
    (is_some c.self.inside.stop) c.write.new.self.events c.self.inside.spent) c.take.result)
    c.self.view_is
    (claimed_of g.W.Work.job_of g.W.Work.answers_of c.args.worker account
    c.take.new.self c.write.new.self.events c.take.result over off
    (subst (λ p. IsTakenAt g.W.Work.job_of g.W.Work.answers_of c.args.worker p slots
    c.take.new.self c.take.result) is
    (subst (λ xs. IsTakenAt g.W.Work.job_of g.W.Work.answers_of c.args.worker
    c.first_queued-place.result xs c.take.new.self c.take.result) kept c.take.ensures.taken))
    (c.write.ensures.written
    ∙ ap (λ p. c.self.inside.journal.events ++ Events.Claim c.args.worker p ∷ []) is))

pub returns-clause-room : goal.returns-clause-room
returns-clause-room g c =
    let slots = c.self.inside.jobs in
    let kept : c.first_queued-place.new.self ≡ slots =
    c.first_queued-place.ensures.kept ∙ c.are_over.ensures.kept in
    let is : c.first_queued-place.result ≡ first_queued slots =
    c.first_queued-place.ensures.first ∙ ap first_queued c.are_over.ensures.kept in
    let long : length c.slots.result.now ≡ length slots =
    ap length (c.slots.ensures ∙ kept) in
    let off : first_queued slots ≢ length slots =
    λ e. c.if-place-slots.false (is ∙ e ∙ sym long) in
    let one = taken_one g.W.Work.job_of g.W.Work.answers_of c.args.worker slots
    c.take.new.self c.take.result off
    (subst (λ p. IsTakenAt g.W.Work.job_of g.W.Work.answers_of c.args.worker p slots
    c.take.new.self c.take.result) is
    (subst (λ xs. IsTakenAt g.W.Work.job_of g.W.Work.answers_of c.args.worker
    c.first_queued-place.result xs c.take.new.self c.take.result) kept c.take.ensures.taken)) in
    subst (λ t. t.room ≤ c.write.new.self.room + claim_count c.take.result) c.self.view_is
    (omega (arith, one, c.write.ensures.room))
