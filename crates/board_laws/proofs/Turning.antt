-- A cycle is written alike from wherever on it one begins.
use Rattle.std.proofs.Common.{◌≡◌, ◌≢◌, ℕ, Bool, true, false, List, [], ◌∷◌, ◌++◌, refl, sym, arith}
use Rattle.std.proofs.Common.{if◌then◌else◌, append_assoc, subst, ◌⊎◌, inl, inr}
use Rattle.std.proofs.lemmas.Grind.{common_steps}
use Rattle.std.proofs.lemmas.List.{append-nil}
use Rattle.std.specs.Str.{bytes_eq}
use Rattle.std.proofs.lemmas.Slice.Eq.{bytes_eq-Decides}
use Rattle.board_laws.specs.Rounds.{least, before, from_on, turned_to, cycle_texts, stands}
use Rattle.board_laws.proofs.Orders.{lesser-either, least-turned}

pub from_on-stands : (text : List ℕ) (xs ys : List (List ℕ)) → stands text xs ≡ true
    → from_on text (xs ++ ys) ≡ from_on text xs ++ ys
from_on-stands text [] ys h = cc
from_on-stands text (x ∷ xs) ys h = grind (arith, common_steps, from_on-stands text xs ys)

pub before-stands : (text : List ℕ) (xs ys : List (List ℕ)) → stands text xs ≡ true
    → before text (xs ++ ys) ≡ before text xs
before-stands text [] ys h = cc
before-stands text (x ∷ xs) ys h = grind (arith, common_steps, before-stands text xs ys)

pub from_on-absent : (text : List ℕ) (xs ys : List (List ℕ)) → stands text xs ≡ false
    → from_on text (xs ++ ys) ≡ from_on text ys
from_on-absent text [] ys h = refl
from_on-absent text (x ∷ xs) ys h = grind (arith, common_steps, from_on-absent text xs ys)

pub before-absent : (text : List ℕ) (xs ys : List (List ℕ)) → stands text xs ≡ false
    → before text (xs ++ ys) ≡ xs ++ before text ys
before-absent text [] ys h = refl
before-absent text (x ∷ xs) ys h = grind (arith, common_steps, before-absent text xs ys)

pub text_itself : (text : List ℕ) → bytes_eq text text ≡ true
text_itself text = grind (arith, common_steps, bytes_eq-Decides text text)

pub text_same : (xs ys : List ℕ) → bytes_eq xs ys ≡ true → xs ≡ ys
text_same xs ys h = grind (arith, common_steps, bytes_eq-Decides xs ys)

pub text_differs : (xs ys : List ℕ) → xs ≢ ys → bytes_eq xs ys ≡ false
text_differs xs ys h = grind (arith, common_steps, bytes_eq-Decides xs ys)

append-nil-front : (first : List ℕ) (texts : List (List ℕ)) (text : List ℕ)
    → ((first ∷ texts) ++ []) ++ text ∷ [] ≡ (first ∷ []) ++ (texts ++ []) ++ text ∷ []
append-nil-front first texts text = simp (append-nil, append_assoc)

append-past : (first : List ℕ) (texts : List (List ℕ)) (text : List ℕ)
    → (from_on text texts ++ first ∷ before text texts) ++ text ∷ [] ≡
    ((from_on text texts ++ first ∷ []) ++ before text texts) ++ text ∷ []
append-past first texts text = simp append_assoc

stands-more : (text first : List ℕ) (texts : List (List ℕ)) → stands text texts ≡ true
    → stands text (first ∷ texts) ≡ true
stands-more text first texts h = go (bytes_eq text first)
  where
    go : (b : Bool) → (if b then true else stands text texts) ≡ true
    go true = refl
    go false = h

stands-here : (text : List ℕ) (texts : List (List ℕ)) → stands text (text ∷ texts) ≡ true
stands-here text texts = rw (text_itself text) refl

-- the least text stands among them
pub least-stands : (text : List ℕ) (texts : List (List ℕ))
    → stands (least text texts) (text ∷ texts) ≡ true
least-stands text [] = stands-here text []
least-stands text (other ∷ texts) =
    go (least-stands other texts) (lesser-either text (least other texts))
  where
    go : stands (least other texts) (other ∷ texts) ≡ true
        → (least text (other ∷ texts) ≡ text) ⊎ (least text (other ∷ texts) ≡ least other texts)
        → stands (least text (other ∷ texts)) (text ∷ other ∷ texts) ≡ true
    go there (inl same) =
        subst (λ t. stands t (text ∷ other ∷ texts) ≡ true) (sym same)
        (stands-here text (other ∷ texts))
    go there (inr same) =
        subst (λ t. stands t (text ∷ other ∷ texts) ≡ true) (sym same)
        (stands-more (least other texts) text (other ∷ texts) there)

pub turned-once : (text first : List ℕ) (texts : List (List ℕ)) → stands first texts ≡ false
    → stands text (first ∷ texts) ≡ true
    → turned_to text (first ∷ texts) ≡ turned_to text (texts ++ first ∷ [])
turned-once text first texts away here = go (bytes_eq text first) refl
  where
    go : (b : Bool) → bytes_eq text first ≡ b
        → turned_to text (first ∷ texts) ≡ turned_to text (texts ++ first ∷ [])
    go true e =
        let same : text ≡ first = text_same text first e in
        let gone : stands text texts ≡ false = rw same away in
        rw (
          from_on-absent text texts (first ∷ []) gone,
          before-absent text texts (first ∷ []) gone,
          e,
        ) (append-nil-front first texts text)
    go false e =
        let stays : stands text texts ≡ true = rw e at here in
        rw (
          from_on-stands text texts (first ∷ []) stays,
          before-stands text texts (first ∷ []) stays,
          e,
        ) (append-past first texts text)

-- a cycle is written alike from the next job on
pub cycle_texts-turned : (text : List ℕ) (texts : List (List ℕ)) → stands text texts ≡ false
    → cycle_texts (text ∷ texts) ≡ cycle_texts (texts ++ text ∷ [])
cycle_texts-turned text [] away = refl
cycle_texts-turned text (other ∷ texts) away =
    subst (λ t. turned_to (least text (other ∷ texts)) (text ∷ other ∷ texts) ≡ turned_to t (other ∷ texts ++ text ∷ [])) (least-turned text other texts)
    (turned-once (least text (other ∷ texts)) text (other ∷ texts) away
    (least-stands text (other ∷ texts)))
