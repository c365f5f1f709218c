-- How a text falls into its parts, by its cuts.
use Rattle.std.proofs.Common.{◌≡◌, ℕ, Bool, true, false, cond, List, [], ◌∷◌, ◌++◌, Option, None}
use Rattle.std.proofs.Common.{Some, MatchOption, IfNone, IfSome, refl, ap, ◌∙◌}
use Rattle.std.proofs.lemmas.Bool.{eq-eqb}
use Rattle.std.proofs.lemmas.List.Splits.{slice_split-cons_yes, slice_split-cons_no}
use Rattle.std.proofs.Math.Dec.{eqb}
use Rattle.std.specs.List.{onto_first, slice_split}
use denote.Ref.{Bor}
use Rattle.bz_text.specs.Cuts.{cut, parts_at}
use Rattle.bz_text.proofs.CutLists.{Lacks, IsCut, IsCut-cut}

pub parts_at-uncut : (mark : ℕ) (text : List ℕ) → Lacks mark text → parts_at mark text ≡ text ∷ []
parts_at-uncut mark [] lacks = refl
parts_at-uncut mark (b ∷ bs) lacks =
    slice_split-cons_no (λ x. eqb x mark) b bs lacks.0
    ∙ ap (onto_first b) (parts_at-uncut mark bs lacks.1)

pub parts_at-joined : (mark : ℕ) (xs ys : List ℕ)
    → Lacks mark xs
    → parts_at mark (xs ++ mark ∷ ys) ≡ xs ∷ parts_at mark ys
parts_at-joined mark [] ys lacks = slice_split-cons_yes (λ x. eqb x mark) mark ys
    (eq-eqb mark mark refl)
parts_at-joined mark (x ∷ xs) ys lacks =
    slice_split-cons_no (λ b. eqb b mark) x (xs ++ mark ∷ ys) lacks.0
    ∙ ap (onto_first x) (parts_at-joined mark xs ys lacks.1)

-- the parts, by the cut at the first mark
abbrev pub ByCut : ℕ → List ℕ → Option (List ℕ × List ℕ) → Type 0
ByCut mark text r =
    MatchOption r (parts_at mark text ≡ text ∷ [])
    (λ parts. parts_at mark text ≡ parts.0 ∷ parts_at mark parts.1)

pub parts_at-cut : (mark : ℕ) (text : List ℕ) → ByCut mark text (cut mark text)
parts_at-cut mark text = by (cut mark text) (IsCut-cut mark text)
  where
    by : (r : Option (List ℕ × List ℕ)) → IsCut mark text r → ByCut mark text r
    by None lacks = parts_at-uncut mark text lacks
    by (Some parts) h = ap (parts_at mark) h.0 ∙ parts_at-joined mark parts.0 parts.1 h.1

pub parts_at-only : (mark : ℕ) (text : List ℕ) (r : Option (Bor (List ℕ) × Bor (List ℕ)))
    → IfNone r (cut mark text ≡ None)
    → IfNone r (parts_at mark text ≡ text ∷ [])
parts_at-only mark text None e = rw e at (parts_at-cut mark text)
parts_at-only mark text (Some parts) e = tt

pub parts_at-first : (mark : ℕ) (text : List ℕ) (r : Option (Bor (List ℕ) × Bor (List ℕ)))
    → IfSome r (λ parts. cut mark text ≡ Some (parts.0.now, parts.1.now))
    → IfSome r (λ parts. parts_at mark text ≡ parts.0.now ∷ parts_at mark parts.1.now)
parts_at-first mark text None e = tt
parts_at-first mark text (Some parts) e = rw e at (parts_at-cut mark text)

-- a text falls into one part at least
pub split-cons : (p : ℕ → Bool) (text : List ℕ)
    → (part : List ℕ) × (parts : List (List ℕ)) × (slice_split p text ≡ part ∷ parts)
split-cons p [] = ([], [], refl)
split-cons p (b ∷ rest) =
    let tail = split-cons p rest in
    elim (p b) as (λ v. (part : List ℕ) × (parts : List (List ℕ)) × (cond v ([] ∷ slice_split p
    rest) (onto_first b (slice_split p rest)) ≡ part ∷ parts)) [
      | true ↦ ([], slice_split p rest, refl)
      | false ↦ (b ∷ tail.0, tail.1, ap (onto_first b) tail.2)
    ]
