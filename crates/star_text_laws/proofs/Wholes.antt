-- Lines with their ends, and the pieces round the empty text: `lines_joined_are_the_text` and
-- `empty_pieces_joined_are_the_text`.
use Rattle.std.proofs.Common.{◌≡◌, ℕ, zero, suc, ◌+◌, ◌≤◌, ◌<◌, Bool, true, false, List, [], ◌∷◌}
use Rattle.std.proofs.Common.{◌++◌, length, take, drop, refl, ap, ◌∙◌, arith, if◌then◌else◌}
use Rattle.std.proofs.Common.{◌==◌, ◌&&◌}
use Rattle.std.proofs.lemmas.List.{append-nil, length-drop, take-append-drop}
use Rattle.star_scalars.specs.Lines.{break_length, empty_pieces, first_line, is_break, line_length}
use Rattle.star_scalars.specs.Lines.{lines_within, scalar_pieces, whole_length}
use Rattle.star_text_laws.specs.Places.{joined}
use Rattle.star_text_laws.proofs.LastPieces.{without_first}
use Rattle.star_text_laws.proofs.Pieces.{behind_each}

some_end : (c : ℕ) (text : List ℕ) → 0 < break_length (c ∷ text)
some_end c [] = omega arith
some_end c (d ∷ text) = either (c == 13 && d == 10)
  where
    either : (both : Bool) → 0 < (if both then 2 else 1)
    either true = omega arith
    either false = omega arith

some_line : (c : ℕ) (text : List ℕ) → 0 < whole_length (c ∷ text)
unfolding whole_length
some_line c text = either (is_break c)
  where
    either : (ends : Bool)
        → 0 < (if ends then 0 else line_length text + 1)
        + break_length (drop (if ends then 0 else line_length text + 1) (c ∷ text))
    either true = let some = some_end c text in omega (arith, some)
    either false = omega arith

line_first : (text : List ℕ) → first_line true text ≡ take (whole_length text) text
unfolding first_line
line_first text = refl

lines_whole : (most : ℕ) (text : List ℕ)
    → length text ≤ most
    → behind_each [] (lines_within most true text) ≡ text
unfolding lines_within
lines_whole zero [] fits = refl
lines_whole zero (c ∷ text) fits = absurd (omega (arith, fits))
lines_whole (suc most) [] fits = refl
lines_whole (suc most) (c ∷ text) fits =
    (λ i. line_first (c ∷ text) i ++ lines_whole most (drop (whole_length (c ∷ text)) (c ∷ text))
    (let some = some_line c text in
    omega (arith, fits, some, length-drop (whole_length (c ∷ text)) (c ∷ text))) i)
    ∙ take-append-drop (whole_length (c ∷ text)) (c ∷ text)

pub joined_lines : (text : List ℕ) → joined [] (lines_within (length text) true text) ≡ text
joined_lines text =
    without_first [] (lines_within (length text) true text) text
    (lines_whole (length text) text (omega arith))

scalars_whole : (cuts : ℕ) (text : List ℕ) → behind_each [] (scalar_pieces cuts text) ≡ text
unfolding scalar_pieces
scalars_whole zero text = append-nil text
scalars_whole (suc cuts) [] = refl
scalars_whole (suc cuts) (c ∷ text) = ap (λ t. c ∷ t) (scalars_whole cuts text)

pub joined_empty : (cuts : ℕ) (text : List ℕ) → joined [] (empty_pieces cuts text) ≡ text
unfolding empty_pieces
joined_empty zero text = append-nil text
joined_empty (suc cuts) text = scalars_whole cuts text
