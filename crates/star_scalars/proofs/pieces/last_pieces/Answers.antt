use Rattle.std.proofs.Common.{ap, ◌++◌, ◌∷◌, [], ◌∙◌}
use Rattle.std.specs.Str.{encode_utf8_all}
use Rattle.star_scalars.proofs.Cuts.{last_cut, one_made_before}
use Rattle.star_scalars.proofs.pieces.last_pieces.Goals as goal

pub cutting-preserved : goal.cutting-preserved
cutting-preserved c =
    one_made_before encode_utf8_all c.cutting.made.items c.push.new.self.items _ _ _ c.in-Some.behind.now
    c.cutting.invariant
    (last_cut c.args.cuts c.cutting._cut c.args.separator.now c.cutting.rest.now
    c.in-Some.before.now c.in-Some.behind.now c.cutting-test.true c.in-Some.ensures.parts)
    (c.in_ok-push.ensures.items
    ∙ ap (λ text. c.cutting.made.items ++ text ∷ []) c.in_ok-encoded.ensures)
