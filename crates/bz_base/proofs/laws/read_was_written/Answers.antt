use Rattle.bz_base.proofs.PlainOrigins.{read_was_written}
use Rattle.bz_base.proofs.laws.read_was_written.Goals as goal

pub returns : goal.returns
returns c = read_was_written
