-- Where a text is cut at its first mark.
use Rattle.std.proofs.Common.{◌≡◌, ◌≢◌, ℕ, suc, ◌<◌, ◌==◌, false, List, [], ◌∷◌, ◌++◌, length}
use Rattle.std.proofs.Common.{get_or, Some, None, refl, ap, sym, arith, inl, inr, eq-eqb}
use Rattle.std.proofs.lemmas.Bool.{cases_Bool, eqb-true}
use Rattle.std.specs.List.{AllByRecursion}
use Rattle.bz_text.specs.Cuts.{cut}
use Rattle.bz_text.proofs.CutLists.{IsCut, IsCut-cut, Lacks}
use Rattle.bz_version.specs.Precedence.{identifiers}
use Rattle.bz_version.specs.Texts.{before, behind, between_dots, dot}

-- the text has no such mark
abbrev pub Absent : ℕ → List ℕ → Type 0
Absent mark text = AllByRecursion (λ b. (b == mark) ≡ false) text

absent-Lacks : (mark : ℕ) (text : List ℕ) → Lacks mark text → Absent mark text
absent-Lacks mark [] lacks = tt
absent-Lacks mark (b ∷ rest) lacks = (lacks.0, absent-Lacks mark rest lacks.1)

pub before-absent : (mark : ℕ) (text : List ℕ) → Absent mark text → before mark text ≡ text
before-absent mark [] a = refl
before-absent mark (b ∷ rest) a = rw a.0 (ap (λ (l : List ℕ). b ∷ l) (before-absent mark rest a.1))

pub behind-absent : (mark : ℕ) (text : List ℕ) → Absent mark text → behind mark text ≡ None
behind-absent mark [] a = refl
behind-absent mark (b ∷ rest) a = rw a.0 (behind-absent mark rest a.1)

pub before-mark : (mark : ℕ) (front rest : List ℕ)
    → Absent mark front
    → before mark (front ++ mark ∷ rest) ≡ front
before-mark mark [] rest a = rw (eq-eqb mark mark refl) refl
before-mark mark (b ∷ front) rest a = rw a.0
    (ap (λ (l : List ℕ). b ∷ l) (before-mark mark front rest a.1))

pub behind-mark : (mark : ℕ) (front rest : List ℕ)
    → Absent mark front
    → behind mark (front ++ mark ∷ rest) ≡ Some rest
behind-mark mark [] rest a = rw (eq-eqb mark mark refl) refl
behind-mark mark (b ∷ front) rest a = rw a.0 (behind-mark mark front rest a.1)

-- the two cuts of a text, by where it is cut
pub before-cut : (mark : ℕ) (text front rest : List ℕ)
    → cut mark text ≡ Some (front, rest)
    → front ≡ before mark text
before-cut mark text front rest e =
    let parts : IsCut mark text (Some (front, rest)) = rw e at (IsCut-cut mark text) in
    sym (rw parts.0 (before-mark mark front rest (absent-Lacks mark front parts.1)))

pub behind-cut : (mark : ℕ) (text front rest : List ℕ)
    → cut mark text ≡ Some (front, rest)
    → Some rest ≡ behind mark text
behind-cut mark text front rest e =
    let parts : IsCut mark text (Some (front, rest)) = rw e at (IsCut-cut mark text) in
    sym (rw parts.0 (behind-mark mark front rest (absent-Lacks mark front parts.1)))

pub before-uncut : (mark : ℕ) (text : List ℕ) → cut mark text ≡ None → text ≡ before mark text
before-uncut mark text e =
    let lacks : Lacks mark text = rw e at (IsCut-cut mark text) in
    sym (before-absent mark text (absent-Lacks mark text lacks))

pub behind-uncut : (mark : ℕ) (text : List ℕ) → cut mark text ≡ None → None ≡ behind mark text
behind-uncut mark text e =
    let lacks : Lacks mark text = rw e at (IsCut-cut mark text) in
    sym (behind-absent mark text (absent-Lacks mark text lacks))

-- the first of the parts between dots, and the others
pub dots_cut : (text : List ℕ) → between_dots text ≡ before dot text ∷ identifiers (behind dot text)
dots_cut [] = refl
dots_cut (b ∷ rest) = elim (cases_Bool (b == 46)) [
  | inl same ↦ rw same refl
  | inr other ↦ rw (other, dots_cut rest) refl
]
