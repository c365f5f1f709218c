use Rattle.bz_base.proofs.PlainOrigins.{nothing_read}
use Rattle.bz_base.proofs.laws.nothing_is_read_where_nothing_was_written.Goals as goal

pub returns : goal.returns
returns c = nothing_read
