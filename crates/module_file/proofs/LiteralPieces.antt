-- Lines of too many pieces.
use Rattle.std.proofs.Common.{◌≡◌, ℕ, List, ◌∷◌, ◌==◌, refl}
use Rattle.bz_text.proofs.CutParts.{split-cons}
use Rattle.module_file.specs.LiteralLines.{line_of_pieces, not_literal, pieces_of}
use Rattle.std.specs.Prelude.{Err}

-- behind a fifth quote no directive is left
pub line_of_pieces-six : (a b c d e rest : List ℕ)
    → line_of_pieces (a ∷ b ∷ c ∷ d ∷ e ∷ pieces_of rest) ≡ Err not_literal
line_of_pieces-six a b c d e rest = rw (split-cons (λ x. x == 34) rest).2 refl
