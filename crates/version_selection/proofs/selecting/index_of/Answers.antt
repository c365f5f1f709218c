use Rattle.std.proofs.Common.{sym, ◌∙◌}
use Rattle.std.specs.Prelude.{nat_eq}
use Rattle.std.proofs.lemmas.Iterator.Adapters.{position_from-zero}
use Rattle.version_selection.proofs.selecting.index_of.Goals as goal

pub returns-in_err-position : goal.returns-in_err-position
returns-in_err-position c =
    c.from_residual.ensures ∙ sym c.in_err-position.was ∙ c.get_index_of.ensures.index
    ∙ position_from-zero (nat_eq c.args.index) c.args.indexes.now.keys

pub returns : goal.returns
returns c = sym c.in_ok-position.was ∙ c.get_index_of.ensures.index
    ∙ position_from-zero (nat_eq c.args.index) c.args.indexes.now.keys
