-- The text of a cycle, piece by piece.
use Rattle.std.proofs.Common.{◌≡◌, ◌≢◌, ◌<◌, ℕ, suc, Bool, true, false, List, [], ◌∷◌, ◌++◌, refl, ap, sym, ◌∙◌}
use Rattle.std.proofs.Common.{arith, take, drop, append_assoc, append-nil}
use Rattle.std.proofs.lemmas.Grind.{flat_map-append}
use Rattle.std.proofs.lemmas.Bool.Decides.{nat_tests}
use Rattle.std.specs.List.{position_or_len}
use Rattle.std.specs.Str.{bytes_eq}
use Rattle.std.proofs.Common.{nat_cmp}
use Rattle.std.specs.Cmp.Lexicographic.{slice_cmp}
use Rattle.std.specs.Cmp.{ranks}
use Rattle.std.specs.Ordering.{MatchOrdering, ordering_then}
use Rattle.std.specs.declared.cmp.Ordering.{Ordering}
use Rattle.std.specs.declared.cmp.Ordering.TheVariants.{Less, Equal, Greater}
use Rattle.board_laws.specs.Rounds.{before, from_on, least, lesser, turned_to}
use Rattle.board_laws.proofs.Orders.{lesser-chained}
use Rattle.board_work.specs.Cycles.{arrows}
use Rattle.board_cycle.specs.Arrows.{with_arrow, with_arrows}

pub least_next : (text other : List ℕ) (texts : List (List ℕ))
    → least text (other ∷ texts) ≡ least (lesser text other) texts
least_next text other [] = refl
least_next text other (more ∷ texts) = sym (lesser-chained text other (least more texts))

pub from_place : (text : List ℕ) (texts : List (List ℕ))
    → from_on text texts ≡ drop (position_or_len (bytes_eq text) texts) texts
from_place text [] = refl
from_place text (other ∷ texts) = go (bytes_eq text other) refl (from_place text texts)
  where
    go : (b : Bool) → bytes_eq text other ≡ b
        → from_on text texts ≡ drop (position_or_len (bytes_eq text) texts) texts
        → from_on text (other ∷ texts)
        ≡ drop (position_or_len (bytes_eq text) (other ∷ texts)) (other ∷ texts)
    go true e rest =
        let none : position_or_len (bytes_eq text) (other ∷ texts) ≡ 0 = rw e refl in
        rw e refl ∙ ap (λ n. drop n (other ∷ texts)) (sym none)
    go false e rest =
        let next : position_or_len (bytes_eq text) (other ∷ texts)
        ≡ suc (position_or_len (bytes_eq text) texts) = rw e (omega arith) in
        rw e rest ∙ ap (λ n. drop n (other ∷ texts)) (sym next)

pub before_place : (text : List ℕ) (texts : List (List ℕ))
    → before text texts ≡ take (position_or_len (bytes_eq text) texts) texts
before_place text [] = refl
before_place text (other ∷ texts) = go (bytes_eq text other) refl (before_place text texts)
  where
    go : (b : Bool) → bytes_eq text other ≡ b
        → before text texts ≡ take (position_or_len (bytes_eq text) texts) texts
        → before text (other ∷ texts)
        ≡ take (position_or_len (bytes_eq text) (other ∷ texts)) (other ∷ texts)
    go true e rest =
        let none : position_or_len (bytes_eq text) (other ∷ texts) ≡ 0 = rw e refl in
        rw e refl ∙ ap (λ n. take n (other ∷ texts)) (sym none)
    go false e rest =
        let next : position_or_len (bytes_eq text) (other ∷ texts)
        ≡ suc (position_or_len (bytes_eq text) texts) = rw e (omega arith) in
        rw e (ap (λ xs. other ∷ xs) rest) ∙ ap (λ n. take n (other ∷ texts)) (sym next)

pub arrows_last : (texts : List (List ℕ)) (last : List ℕ)
    → arrows (texts ++ last ∷ []) ≡ with_arrows texts ++ last
arrows_last [] last = refl
arrows_last (text ∷ []) last = ap (λ t. t ++ last) (sym (append-nil (with_arrow text)))
arrows_last (text ∷ other ∷ texts) last =
    ap (λ t. with_arrow text ++ t) (arrows_last (other ∷ texts) last)
    ∙ sym (append_assoc (with_arrow text) (with_arrows (other ∷ texts)) last)

by_order : Ordering → List ℕ → List ℕ → List ℕ
by_order Less xs ys = xs
by_order Equal xs ys = xs
by_order Greater xs ys = ys

order_behind : (o : Ordering) (x y : ℕ) (xs ys : List ℕ) → x ≡ y
    → x ∷ by_order o xs ys ≡ by_order o (x ∷ xs) (y ∷ ys)
unfolding by_order
order_behind Less x y xs ys same = refl
order_behind Equal x y xs ys same = refl
order_behind Greater x y xs ys same = ap (λ z. z ∷ ys) same

lesser_by : (xs ys : List ℕ) → lesser xs ys ≡ by_order (slice_cmp nat_cmp xs ys) xs ys
unfolding by_order
lesser_by [] [] = refl
lesser_by [] (y ∷ ys) = refl
lesser_by (x ∷ xs) [] = refl
lesser_by (x ∷ xs) (y ∷ ys) = go (nat_cmp x y) (ranks x y) (lesser_by xs ys)
  where
    go : (o : Ordering) → MatchOrdering o (x < y) (x ≡ y) (y < x)
        → lesser xs ys ≡ by_order (slice_cmp nat_cmp xs ys) xs ys
        → lesser (x ∷ xs) (y ∷ ys)
        ≡ by_order (ordering_then o (slice_cmp nat_cmp xs ys)) (x ∷ xs) (y ∷ ys)
    go Less less rest = grind (arith, nat_tests, less)
    go Equal same rest =
        let behind : lesser (x ∷ xs) (y ∷ ys) ≡ x ∷ lesser xs ys = grind (arith, nat_tests, same) in
        behind ∙ ap (λ zs. x ∷ zs) rest ∙ order_behind (slice_cmp nat_cmp xs ys) x y xs ys same
    go Greater less rest = grind (arith, nat_tests, less)

pub lesser_if_greater : (xs ys : List ℕ) → slice_cmp nat_cmp xs ys ≡ Greater → lesser xs ys ≡ ys
unfolding by_order
lesser_if_greater xs ys is = lesser_by xs ys ∙ ap (λ o. by_order o xs ys) is

pub lesser_if_not : (xs ys : List ℕ) (o : Ordering) → o ≡ slice_cmp nat_cmp xs ys → o ≢ Greater
    → lesser xs ys ≡ xs
unfolding by_order
lesser_if_not xs ys Less is off = lesser_by xs ys ∙ ap (λ o. by_order o xs ys) (sym is)
lesser_if_not xs ys Equal is off = lesser_by xs ys ∙ ap (λ o. by_order o xs ys) (sym is)
lesser_if_not xs ys Greater is off = absurd (off refl)

-- what is left of a round is the whole of it
pub round_is : (first : List ℕ) (texts : List (List ℕ)) (place : ℕ)
    → place ≡ position_or_len (bytes_eq first) texts → (old : List ℕ)
    → ((old ++ with_arrows (drop place texts)) ++ with_arrows (take place texts)) ++ first
    ≡ old ++ arrows (turned_to first texts)
round_is first texts place is old =
    append_assoc (old ++ with_arrows (drop place texts)) (with_arrows (take place texts)) first
    ∙ append_assoc old (with_arrows (drop place texts)) (with_arrows (take place texts) ++ first)
    ∙ ap (λ t. old ++ t) (
    sym (append_assoc (with_arrows (drop place texts)) (with_arrows (take place texts)) first)
    ∙ ap (λ t. t ++ first) (sym (flat_map-append with_arrow (drop place texts) (take place texts)))
    ∙ sym (arrows_last (drop place texts ++ take place texts) first)
    ∙ ap (λ n. arrows ((drop n texts ++ take n texts) ++ first ∷ [])) is
    ∙ ap (λ xs. arrows ((xs ++ take (position_or_len (bytes_eq first) texts) texts) ++ first ∷ [])) (sym (from_place first texts))
    ∙ ap (λ xs. arrows ((from_on first texts ++ xs) ++ first ∷ [])) (sym (before_place first texts))
    )
