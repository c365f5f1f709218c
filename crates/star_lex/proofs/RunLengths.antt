-- A longest run has one length.
use Rattle.std.proofs.Common.{◌≡◌, ℕ, zero, suc, ◌<◌, ◌≤◌, Bool, true, false, List, [], ◌∷◌, length}
use Rattle.std.proofs.Common.{take, slice_index, refl, arith, ◌∙◌, ap, inl, inr}
use Rattle.std.specs.List.{list_all}
use Rattle.std.proofs.lemmas.Bool.{and_parts, both_ways, cases_order}
use Rattle.std.proofs.lemmas.List.{get_or_past}
use Rattle.star_lex.specs.declared.runs.Within.{Within}
use Rattle.star_lex.specs.declared.runs.Within.TheVariants.{Blank, Word, RestOfLine}
use Rattle.star_lex.specs.Runs.{belongs, IsRun}

-- no run holds what stands behind the text's end
pub belongs-end : (within : Within) → belongs within 0 ≡ false
belongs-end Blank = refl
belongs-end Word = refl
belongs-end RestOfLine = refl

pub belongs-past : (within : Within) (text : List ℕ) (n : ℕ)
    → length text ≤ n
    → belongs within (slice_index text n) ≡ false
belongs-past within text n h = ap (belongs within) (get_or_past text n 0 h) ∙ belongs-end within

-- each byte among the first n passes
pub each-at : (test : ℕ → Bool) (text : List ℕ) (n m : ℕ)
    → list_all test (take n text) ≡ true
    → m < n
    → m < length text
    → test (slice_index text m) ≡ true
each-at test [] n m h l w = absurd (omega arith)
each-at test (b ∷ text) zero m h l w = absurd (omega arith)
each-at test (b ∷ text) (suc n) zero h l w = (and_parts _ _ h).0
each-at test (b ∷ text) (suc n) (suc m) h l w = each-at test text n m (and_parts _ _ h).1
    (omega arith) (omega arith)

not-longer : (test : ℕ → Bool) (text : List ℕ) (n m : ℕ)
    → IsRun test text n
    → IsRun test text m
    → m < n
    → ⊥
not-longer test text n m long short l =
    let within : n ≤ length text = long.within in
    both_ways _ short.stops (each-at test text n m long.each l (omega arith))

pub IsRun-unique : (test : ℕ → Bool) (text : List ℕ) (n m : ℕ)
    → IsRun test text n
    → IsRun test text m
    → n ≡ m
IsRun-unique test text n m one other =
    elim (cases_order n m) [
      | inl e ↦ e
      | inr h ↦ elim h [
        | inl l ↦ absurd (not-longer test text m n other one l)
        | inr l ↦ absurd (not-longer test text n m one other l)
      ]
    ]

-- where the first byte belongs to a run, the run isn't empty
pub IsRun-begun : (test : ℕ → Bool) (text : List ℕ) (n : ℕ)
    → IsRun test text n
    → test (slice_index text 0) ≡ true
    → 0 < n
IsRun-begun test text zero run h = absurd (both_ways _ run.stops h)
IsRun-begun test text (suc n) run h = omega arith
