-- How a text falls into its segments.
use Rattle.std.proofs.Common.{◌≡◌, ℕ, ◌<◌, List, [], ◌∷◌, length, None, Some, refl, ap, ◌∙◌, arith}
use Rattle.std.proofs.lemmas.List.Splits.{length-slice_split}
use Rattle.std.proofs.Math.Dec.{eqb}
use Rattle.bz_base.specs.Paths.{segments_of}
use Rattle.bz_text.specs.Cuts.{cut}
use Rattle.bz_label.specs.Parts.{last_of, last_segment}
use Rattle.bz_text.proofs.CutParts.{parts_at-cut}

pub segments_of-whole : (text : List ℕ) → cut 47 text ≡ None → segments_of text ≡ text ∷ []
segments_of-whole text e = rw e at (parts_at-cut 47 text)

pub segments_of-parts : (text xs ys : List ℕ)
    → cut 47 text ≡ Some (xs, ys)
    → segments_of text ≡ xs ∷ segments_of ys
segments_of-parts text xs ys e = rw e at (parts_at-cut 47 text)

last_of-front : (segment : List ℕ) (segments : List (List ℕ))
    → 0 < length segments
    → last_of (segment ∷ segments) ≡ last_of segments
last_of-front segment [] h = absurd (omega arith)
last_of-front segment (next ∷ segments) h = refl

pub last_segment-parts : (text xs ys : List ℕ)
    → cut 47 text ≡ Some (xs, ys)
    → last_segment text ≡ last_segment ys
last_segment-parts text xs ys e =
    ap last_of (segments_of-parts text xs ys e)
    ∙ last_of-front xs (segments_of ys)
    (let n = length-slice_split (λ b. eqb b 47) ys in omega arith)

pub last_segment-whole : (text : List ℕ) → cut 47 text ≡ None → last_segment text ≡ text
last_segment-whole text e = ap last_of (segments_of-whole text e)
