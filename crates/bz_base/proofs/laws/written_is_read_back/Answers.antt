use Rattle.bz_base.proofs.PlainLaws.{written}
use Rattle.bz_base.proofs.laws.written_is_read_back.Goals as goal

pub returns : goal.returns
returns c = written
