use Rattle.std.proofs.Common.{ap, map, reverse, ◌∙◌}
use Rattle.star_scalars.specs.Pieces.{word_text, words}
use Rattle.star_scalars.specs.declared.pieces.Direction.TheVariants as direction
use Rattle.star_scalars.proofs.MirrorImages.{mirrored_words}
use Rattle.star_scalars.proofs.pieces.last_words.Goals as goal

pub returns : goal.returns
returns c =
    c.turned.ensures
    ∙ ap reverse (c.in_ok-made.ensures
    ∙ ap (λ image. map (word_text direction.End) (words c.args.cuts image))
    (c.as_slice.ensures.value ∙ c.in_ok-image.ensures))
    ∙ mirrored_words c.args.cuts c.args.text.now
