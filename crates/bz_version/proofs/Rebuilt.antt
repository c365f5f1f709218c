-- A text comes back from its identifiers.
use Rattle.std.proofs.Common.{◌≡◌, ℕ, ◌==◌, List, [], ◌∷◌, ◌++◌, Option, Some, None, refl, sym, ap}
use Rattle.std.proofs.Common.{◌∙◌, inl, inr}
use Rattle.std.proofs.lemmas.Bool.{cases_Bool, eqb-true}
use Rattle.bz_version.proofs.Marks.{dots_cut}
use Rattle.bz_version.specs.Grammar.{Parts}
use Rattle.bz_version.specs.Precedence.{identifiers, parts_of}
use Rattle.bz_version.specs.Texts.{before, behind, between_dots, dash, dot, dotted}

-- what stands from the first mark on
abbrev from_mark : ℕ → Option (List ℕ) → List ℕ
from_mark mark None = []
from_mark mark (Some rest) = mark ∷ rest

before-from_mark : (mark : ℕ) (text : List ℕ)
    → before mark text ++ from_mark mark (behind mark text) ≡ text
before-from_mark mark [] = refl
before-from_mark mark (b ∷ rest) = elim (cases_Bool (b == mark)) [
  | inl same ↦ rw same (ap (λ (c : ℕ). c ∷ rest) (sym (eqb-true b mark same)))
  | inr other ↦ rw other (ap (λ (l : List ℕ). b ∷ l) (before-from_mark mark rest))
]

dotted-between_dots : (text : List ℕ) → dotted (between_dots text) ≡ text
dotted-between_dots [] = refl
dotted-between_dots (b ∷ rest) = elim (cases_Bool (b == dot)) [
  | inl same ↦
      let more = rw (dots_cut rest) at (dotted-between_dots rest) in
      rw (same, dots_cut rest)
      (ap (λ (l : List ℕ). dot ∷ l) more ∙ ap (λ (c : ℕ). c ∷ rest) (sym (eqb-true b dot same)))
  | inr other ↦
      let more = rw (dots_cut rest) at (dotted-between_dots rest) in
      rw (other, dots_cut rest) (ap (λ (l : List ℕ). b ∷ l) more)
]

-- PRERELEASE behind its mark, if there are identifiers
abbrev prerelease_text : List (List ℕ) → List ℕ
prerelease_text [] = []
prerelease_text (x ∷ xs) = dash ∷ dotted (x ∷ xs)

prerelease_text-identifiers : (part : Option (List ℕ))
    → prerelease_text (identifiers part) ≡ from_mark dash part
prerelease_text-identifiers None = refl
prerelease_text-identifiers (Some text) = rw (dots_cut text)
    (ap (λ (l : List ℕ). dash ∷ l) (rw (dots_cut text) at (dotted-between_dots text)))

abbrev rebuilt : Parts → List ℕ
rebuilt version = dotted version.release ++ prerelease_text version.prerelease

rebuilt-parts_of : (text : List ℕ) → rebuilt (parts_of text) ≡ text
rebuilt-parts_of [] = refl
rebuilt-parts_of (b ∷ rest) =
    let front = dotted-between_dots (before dash (b ∷ rest)) in
    let back = prerelease_text-identifiers (behind dash (b ∷ rest)) in
    ap (λ (l : List ℕ). l ++ prerelease_text (identifiers (behind dash (b ∷ rest)))) front
    ∙ ap (λ (l : List ℕ). before dash (b ∷ rest) ++ l) back
    ∙ before-from_mark dash (b ∷ rest)

-- a text is told by its identifiers
pub parts_of-same : (first second : List ℕ) → parts_of first ≡ parts_of second → first ≡ second
parts_of-same first second e = sym (rebuilt-parts_of first) ∙ ap rebuilt e ∙ rebuilt-parts_of second
