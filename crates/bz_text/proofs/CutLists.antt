-- Cuts of plain lists.
use Rattle.std.proofs.Common.{◌≡◌, ◌≢◌, ℕ, suc, ◌<◌, Bool, true, false, List, [], ◌∷◌, ◌++◌, length}
use Rattle.std.proofs.Common.{get_or, Option, None, Some, option_map, IfNone, IfSome, MatchOption}
use Rattle.std.proofs.Common.{if◌then◌else◌, refl, ap, ◌∙◌, arith}
use Rattle.std.proofs.lemmas.Bool.{eqb-true, eq-eqb, ne_eqb, cond-true, cond-false}
use Rattle.std.proofs.Math.Dec.{eqb}
use denote.Ref.{Bor}
use Rattle.bz_text.specs.Cuts.{behind, cut}

-- no element is the mark
abbrev pub Lacks : ℕ → List ℕ → Type 0
Lacks mark [] = Unit {0}
Lacks mark (b ∷ bs) = (eqb b mark ≡ false) × Lacks mark bs

pub Lacks-by_index : (mark : ℕ) (bs : List ℕ)
    → ((i : ℕ) → i < length bs → get_or bs i 0 ≢ mark)
    → Lacks mark bs
Lacks-by_index mark [] h = tt
Lacks-by_index mark (b ∷ bs) h = (
  ne_eqb b mark (h 0 (omega arith)),
  Lacks-by_index mark bs
      (λ i within. h (suc i) (omega arith)),
)

pub cut-at : (mark : ℕ) (xs ys : List ℕ)
    → Lacks mark xs
    → cut mark (xs ++ mark ∷ ys) ≡ Some (xs, ys)
cut-at mark [] ys lacks = cond-true _ _ _ (eq-eqb mark mark refl)
cut-at mark (x ∷ xs) ys lacks = rw (lacks.0, cut-at mark xs ys lacks.1) refl

pub cut-none : (mark : ℕ) (bs : List ℕ) → Lacks mark bs → cut mark bs ≡ None
cut-none mark [] lacks = refl
cut-none mark (b ∷ bs) lacks = rw (lacks.0, cut-none mark bs lacks.1) refl

-- what a cut says of the list
abbrev pub IsCut : ℕ → List ℕ → Option (List ℕ × List ℕ) → Type 0
IsCut mark bs r = MatchOption r (Lacks mark bs)
    (λ parts. (bs ≡ parts.0 ++ mark ∷ parts.1) × Lacks mark parts.0)

pub IsCut-cut : (mark : ℕ) (bs : List ℕ) → IsCut mark bs (cut mark bs)
IsCut-cut mark [] = tt
IsCut-cut mark (b ∷ bs) = first (eqb b mark) (IsCut-cut mark bs) refl
  where
    rest : eqb b mark ≡ false
        → (r : Option (List ℕ × List ℕ))
        → IsCut mark bs r
        → IsCut mark (b ∷ bs) (option_map (λ parts. (b ∷ parts.0, parts.1)) r)
    rest e None lacks = (e, lacks)
    rest e (Some parts) h = (ap (λ xs. b ∷ xs) h.0, (e, h.1))

    first : (t : Bool)
        → IsCut mark bs (cut mark bs)
        → eqb b mark ≡ t
        → IsCut mark (b ∷ bs)
        (if t then Some ([], bs)
        else option_map (λ parts. (b ∷ parts.0, parts.1)) (cut mark bs))
    first true further e = (ap (λ x. x ∷ bs) (eqb-true b mark e), tt)
    first false further e = rest e (cut mark bs) further

pub behind-mark : (mark : ℕ) (bs : List ℕ) → behind mark (mark ∷ bs) ≡ Some bs
behind-mark mark bs = cond-true _ _ _ (eq-eqb mark mark refl)

pub behind-none : (mark : ℕ) (bs : List ℕ)
    → ((rest : List ℕ) → bs ≢ mark ∷ rest)
    → behind mark bs ≡ None
behind-none mark [] other = refl
behind-none mark (b ∷ bs) other = cond-false _ _ _
    (ne_eqb b mark (λ e. other bs (ap (λ x. x ∷ bs) e)))

-- what `behind` says of the list
abbrev pub IsBehind : ℕ → List ℕ → Option (List ℕ) → Type 0
IsBehind mark bs r = MatchOption r (Unit {0}) (λ rest. bs ≡ mark ∷ rest)

pub IsBehind-behind : (mark : ℕ) (bs : List ℕ) → IsBehind mark bs (behind mark bs)
IsBehind-behind mark [] = tt
IsBehind-behind mark (b ∷ bs) = first (eqb b mark) refl
  where
    first : (t : Bool) → eqb b mark ≡ t → IsBehind mark (b ∷ bs) (if t then Some bs else None)
    first true e = ap (λ x. x ∷ bs) (eqb-true b mark e)
    first false e = tt

-- the parts that a text falls into at the first mark
abbrev pub Parts : ℕ → List ℕ → Option (Bor (List ℕ) × Bor (List ℕ)) → Type 0
Parts mark text r = MatchOption r ((i : ℕ) → i < length text → get_or text i 0 ≢ mark)
    (λ x. (text ≡ x.0.now ++ (mark ∷ x.1.now))
    × ((i : ℕ) → i < length x.0.now → get_or x.0.now i 0 ≢ mark))

pub Parts-whole : (mark : ℕ) (text : List ℕ) (r : Option (Bor (List ℕ) × Bor (List ℕ)))
    → Parts mark text r
    → IfNone r (cut mark text ≡ None)
Parts-whole mark text None lacks = cut-none mark text (Lacks-by_index mark text lacks)
Parts-whole mark text (Some x) h = tt

pub Parts-parts : (mark : ℕ) (text : List ℕ) (r : Option (Bor (List ℕ) × Bor (List ℕ)))
    → Parts mark text r
    → IfSome r (λ x. cut mark text ≡ Some (x.0.now, x.1.now))
Parts-parts mark text None lacks = tt
Parts-parts mark text (Some x) h =
    ap (cut mark) h.0 ∙ cut-at mark x.0.now x.1.now (Lacks-by_index mark x.0.now h.1)

pub behind-no_prefix : (mark : ℕ) (text : List ℕ) (r : Option (Bor (List ℕ)))
    → MatchOption r ((rest : List ℕ) → text ≢ mark ∷ rest) (λ x. text ≡ mark ∷ x.now)
    → IfNone r (behind mark text ≡ None)
behind-no_prefix mark text None other = behind-none mark text other
behind-no_prefix mark text (Some x) e = tt

pub behind-prefix : (mark : ℕ) (text : List ℕ) (r : Option (Bor (List ℕ)))
    → MatchOption r ((rest : List ℕ) → text ≢ mark ∷ rest) (λ x. text ≡ mark ∷ x.now)
    → IfSome r (λ x. behind mark text ≡ Some x.now)
behind-prefix mark text None other = tt
behind-prefix mark text (Some x) e = ap (behind mark) e ∙ behind-mark mark x.now
