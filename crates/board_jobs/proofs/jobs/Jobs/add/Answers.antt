use Rattle.std.proofs.Common.{◌≡◌, ◌∙◌, length, rules, arith}
use Rattle.std.specs.Str.{bytes_eq}
use Rattle.board_jobs.proofs.Indexed.{not_found}
use Rattle.board_jobs.proofs.jobs.Jobs.add.Goals as goal

pub add_new-requires-clause-new : goal.add_new-requires-clause-new
add_new-requires-clause-new g c κs within =
    let past = c.if-place_of-len.false in
    let long : c.len.result ≡ length c.args.self.now = search rules in
    let text = (g.W.Work.meaning c.args.work.now).text in
    not_found (λ slot. bytes_eq (text c.args.job.now) (text slot.job)) c.args.self.now
    c.place_of.result c.place_of.ensures (omega (arith, past, long))
