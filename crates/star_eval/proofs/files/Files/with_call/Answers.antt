use Rattle.star_eval.proofs.Pairs.{call_loaded}
use Rattle.star_eval.proofs.files.Files.with_call.Goals as goal

pub invariant_of-result : goal.invariant_of-result
invariant_of-result c =
    rw (c.put_first.ensures, c.in_ok-code.ensures)
    (call_loaded c.args.count _ _ c.self.invariant)

pub returns-clause-loaded : goal.returns-clause-loaded
returns-clause-loaded c =
    rw (c.put_first.ensures, c.in_ok-code.ensures)
    (call_loaded c.args.count _ _ c.self.invariant)
