use Rattle.std.proofs.lemmas.Str.Pattern.{split_parts}
use Rattle.bz_text.proofs.CutLists.{Parts-parts, Parts-whole}
use Rattle.bz_text.proofs.CutParts.{parts_at-first, parts_at-only}
use Rattle.bz_text.proofs.cuts.cut_at.Goals as goal

pub returns-clause-whole : goal.returns-clause-whole
returns-clause-whole c =
    Parts-whole c.args.mark c.args.text.now _
    (split_parts c.args.mark c.args.text.now _ c.split_once.ensures.cases c.requires)

pub returns-clause-parts : goal.returns-clause-parts
returns-clause-parts c =
    Parts-parts c.args.mark c.args.text.now _
    (split_parts c.args.mark c.args.text.now _ c.split_once.ensures.cases c.requires)

pub returns-clause-only : goal.returns-clause-only
returns-clause-only c = parts_at-only c.args.mark c.args.text.now _
    (Parts-whole c.args.mark c.args.text.now _
    (split_parts c.args.mark c.args.text.now _ c.split_once.ensures.cases c.requires))

pub returns-clause-first : goal.returns-clause-first
returns-clause-first c = parts_at-first c.args.mark c.args.text.now _
    (Parts-parts c.args.mark c.args.text.now _
    (split_parts c.args.mark c.args.text.now _ c.split_once.ensures.cases c.requires))
