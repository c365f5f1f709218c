use Rattle.bz_base.proofs.RootLeaving.{bad_path-nowhere}
use Rattle.bz_base.proofs.laws.what_leads_nowhere_is_refused.Goals as goal

pub returns : goal.returns
returns c = bad_path-nowhere
