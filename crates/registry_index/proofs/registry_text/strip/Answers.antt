use Rattle.bz_tree.proofs.Fronts.{stripped-strip}
use Rattle.registry_index.proofs.registry_text.strip.Goals as goal

pub returns : goal.returns
returns c = stripped-strip c.args.front.now c.args.text.now _ c.strip_prefix.ensures.cases
