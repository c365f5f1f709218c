use Rattle.std.proofs.lemmas.Str.Pattern.{strip_prefix_char}
use Rattle.bz_text.proofs.CutLists.{behind-no_prefix, behind-prefix}
use Rattle.bz_text.proofs.cuts.text_behind.Goals as goal

pub returns-clause-none : goal.returns-clause-none
returns-clause-none c = behind-no_prefix c.args.mark c.args.text.now _
    (strip_prefix_char c.args.mark c.args.text.now _ c.strip_prefix.ensures.cases c.requires)

pub returns-clause-some : goal.returns-clause-some
returns-clause-some c = behind-prefix c.args.mark c.args.text.now _
    (strip_prefix_char c.args.mark c.args.text.now _ c.strip_prefix.ensures.cases c.requires)
