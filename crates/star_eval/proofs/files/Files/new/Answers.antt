use Rattle.star_eval.proofs.Pairs.{one_loaded}
use Rattle.star_eval.proofs.files.Files.new.Goals as goal

pub invariant_of-result : goal.invariant_of-result
invariant_of-result c =
    rw (c.in_ok-programs.ensures, c.in_ok-coded.ensures, c.in_ok-calling.ensures)
    (one_loaded _ c.in_ok-empty_program.ensures)
