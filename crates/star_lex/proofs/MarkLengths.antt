-- How long marks are, by the table.
use Rattle.std.proofs.Common.{◌≡◌, ℕ, ◌≤◌, true, false, ◌&&◌, List, [], ◌∷◌, length, take, leb}
use Rattle.std.proofs.Common.{refl, arith, subst, sym, inl, inr}
use Rattle.std.specs.List.{list_all, list_any}
use Rattle.std.specs.Str.{bytes_eq}
use Rattle.std.proofs.lemmas.Bool.{and_parts, or_cases, leb-true, both_ways}
use Rattle.std.proofs.lemmas.Slice.Eq.{bytes_eq-Decides}
use Rattle.std.proofs.lemmas.List.{length-take-le}
use Rattle.star_lex.specs.Marks.{single_marks, double_marks, triple_marks, is_mark, IsLongestMark}

-- what stands in a table of short texts is short
short_among : (text : List ℕ) (table : List (List ℕ))
    → list_all (λ (m : List ℕ). leb 1 (length m) && leb (length m) 3) table ≡ true
    → list_any (bytes_eq text) table ≡ true
    → (1 ≤ length text) × (length text ≤ 3)
short_among text [] all any = absurd (both_ways _ refl any)
short_among text (mark ∷ table) all any =
    let parts = and_parts (leb 1 (length mark) && leb (length mark) 3)
    (list_all (λ (m : List ℕ). leb 1 (length m) && leb (length m) 3) table) all in
    let bounds = and_parts (leb 1 (length mark)) (leb (length mark) 3) parts.0 in
    elim (or_cases _ _ any) [
      | inl here ↦
          let same : text ≡ mark = (bytes_eq-Decides text mark).0 here in
          let low : 1 ≤ length mark = leb-true 1 (length mark) bounds.0 in
          let high : length mark ≤ 3 = leb-true (length mark) 3 bounds.1 in
          subst (λ (t : List ℕ). (1 ≤ length t) × (length t ≤ 3)) (sym same) (low, high)
      | inr there ↦ short_among text table parts.1 there
    ]

pub marks_short : (text : List ℕ) → is_mark text ≡ true → (1 ≤ length text) × (length text ≤ 3)
unfolding is_mark
marks_short text h =
    elim (or_cases _ _ h) [
      | inl single ↦ short_among text single_marks refl single
      | inr more ↦ elim (or_cases _ _ more) [
        | inl double ↦ short_among text double_marks refl double
        | inr triple ↦ short_among text triple_marks refl triple
      ]
    ]

pub front_short : (text : List ℕ) (m : ℕ)
    → m ≤ length text
    → is_mark (take m text) ≡ true
    → (1 ≤ m) × (m ≤ 3)
front_short text m l h =
    let short = marks_short (take m text) h in
    subst (λ (n : ℕ). (1 ≤ n) × (n ≤ 3)) (length-take-le m text l) short

-- a longest mark has one length
pub IsLongestMark-unique : (text : List ℕ) (n m : ℕ)
    → IsLongestMark text n
    → IsLongestMark text m
    → n ≡ m
IsLongestMark-unique text n m one other =
    let below : m ≤ n = one.longest m other.within other.mark in
    let above : n ≤ m = other.longest n one.within one.mark in
    omega arith

-- no mark of that length stands at the front
abbrev pub Unmarked : List ℕ → ℕ → Type 0
Unmarked text n = n ≤ length text → is_mark (take n text) ≡ false

not-unmarked : (text : List ℕ) (n : ℕ)
    → Unmarked text n
    → n ≤ length text
    → is_mark (take n text) ≡ true
    → ⊥
not-unmarked text n unmarked within marked = both_ways _ (unmarked within) marked

elsewhere : (text : List ℕ) (n m : ℕ)
    → Unmarked text n
    → m ≤ length text
    → is_mark (take m text) ≡ true
    → m ≡ n
    → ⊥
elsewhere text n m unmarked within marked e = not-unmarked text m
    (subst (λ (k : ℕ). Unmarked text k) (sym e) unmarked) within marked

pub longest-triple : (text : List ℕ)
    → 3 ≤ length text
    → is_mark (take 3 text) ≡ true
    → IsLongestMark text 3
longest-triple text within marked = record {
  within = within;
  mark = marked;
  longest = λ m w h. (front_short text m w h).1;
}

pub longest-double : (text : List ℕ)
    → Unmarked text 3
    → 2 ≤ length text
    → is_mark (take 2 text) ≡ true
    → IsLongestMark text 2
longest-double text three within marked = record {
  within = within;
  mark = marked;
  longest = λ m w h. let short = front_short text m w h in let apart : m ≡ 3
      → ⊥ = elsewhere text 3 m three w h in omega arith;
}

pub longest-single : (text : List ℕ)
    → Unmarked text 3
    → Unmarked text 2
    → 1 ≤ length text
    → is_mark (take 1 text) ≡ true
    → IsLongestMark text 1
longest-single text three two within marked = record {
  within = within;
  mark = marked;
  longest = λ m w h. let short = front_short text m w h in let apart : m ≡ 3
      → ⊥ = elsewhere text 3 m three w h in let away : m ≡ 2
      → ⊥ = elsewhere text 2 m two w h in omega arith;
}

pub longest-none : (text : List ℕ)
    → Unmarked text 3
    → Unmarked text 2
    → Unmarked text 1
    → (n : ℕ)
    → IsLongestMark text n
    → ⊥
longest-none text three two one n mark =
    let short = front_short text n mark.within mark.mark in
    let apart : n ≡ 3 → ⊥ = elsewhere text 3 n three mark.within mark.mark in
    let away : n ≡ 2 → ⊥ = elsewhere text 2 n two mark.within mark.mark in
    let off : n ≡ 1 → ⊥ = elsewhere text 1 n one mark.within mark.mark in
    omega arith
