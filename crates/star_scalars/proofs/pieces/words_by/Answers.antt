use Rattle.std.proofs.Common.{ap, ◌++◌, ◌∷◌, [], ◌∙◌}
use Rattle.star_scalars.specs.Pieces.{word_text}
use Rattle.star_scalars.proofs.Cuts.{one_made}
use Rattle.star_scalars.proofs.WordCuts.{word_cut_at, word_stop}
use Rattle.star_scalars.proofs.pieces.words_by.Goals as goal

pub returns-in_default : goal.returns-in_default
returns-in_default c =
    word_stop (word_text c.args.by) c.args.cuts c.cutting._cut c.cutting.rest.now
    c.cutting.made.items _ c.cutting-test.true c.in_default.ensures.none c.cutting.invariant

pub cutting-preserved : goal.cutting-preserved
cutting-preserved c =
    one_made (word_text c.args.by) c.cutting.made.items c.push.new.self.items _ _ _ c.in-Some.word.now
    c.cutting.invariant
    (word_cut_at c.args.cuts c.cutting._cut c.cutting.rest.now c.in-Some.word.now
    c.in-Some.behind.now c.cutting-test.true c.in-Some.ensures.some c.in-Some.ensures.word
    c.in-Some.ensures.behind)
    (c.in_ok-push.ensures.items
    ∙ ap (λ text. c.cutting.made.items ++ text ∷ []) c.in_ok-word_text.ensures)
