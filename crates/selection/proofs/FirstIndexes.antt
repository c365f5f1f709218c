-- The first index of a list at which a test passes.
use Rattle.std.proofs.Common.{◌≡◌, ℕ, suc, ◌+◌, ◌<◌, Bool, true, false, List, [], ◌∷◌, ◌++◌, length}
use Rattle.std.proofs.Common.{None, Some, if◌then◌else◌, refl, ap, ◌∙◌, arith}
use Rattle.std.specs.List.{find, position_from, slice_get}

-- an index found in front stays
pub position_from-front : {X : Type 0} (test : X → Bool) (i : ℕ) (xs more : List X) (index : ℕ)
    → position_from test i xs ≡ Some index
    → position_from test i (xs ++ more) ≡ Some index
position_from-front test i [] more index found = absurd (cc)
position_from-front test i (x ∷ xs) more index found = by (test x)
    (position_from-front test (i + 1) xs more index) found
  where
    by : (t : Bool)
        → (position_from test (i + 1) xs ≡ Some index
        → position_from test (i + 1) (xs ++ more) ≡ Some index)
        → (if t then Some i else position_from test (i + 1) xs) ≡ Some index
        → (if t then Some i else position_from test (i + 1) (xs ++ more)) ≡ Some index
    by true further there = there
    by false further there = further there

-- where nothing passes in front, the last item decides
pub position_from-last : {X : Type 0} (test : X → Bool) (i : ℕ) (xs : List X) (last : X)
    → position_from test i xs ≡ None
    → position_from test i (xs ++ last ∷ []) ≡ (if test last then Some (i + length xs) else None)
position_from-last test i [] last none = let e : i
    ≡ i + 0 = omega arith in ap (λ n. if test last then Some n else None) e
position_from-last test i (x ∷ xs) last none = by (test x)
    (position_from-last test (i + 1) xs last) none
  where
    next : (if test last then Some (i + 1 + length xs) else None)
        ≡ (if test last then Some (i + suc (length xs)) else None)
    next = let e : i + 1 + length xs
        ≡ i + suc (length xs) = omega arith in ap (λ n. if test last then Some n else None) e

    by : (t : Bool)
        → (position_from test (i + 1) xs ≡ None
        → position_from test (i + 1) (xs ++ last ∷ [])
        ≡ (if test last then Some (i + 1 + length xs) else None))
        → (if t then Some i else position_from test (i + 1) xs) ≡ None
        → (if t then Some i else position_from test (i + 1) (xs ++ last ∷ []))
        ≡ (if test last then Some (i + suc (length xs)) else None)
    by true further there = absurd (cc)
    by false further there = further there ∙ next

-- tests that agree on each item find one index
pub position_from-alike : {X : Type 0} (one other : X → Bool) (i : ℕ) (xs : List X)
    → ((x : X) → one x ≡ other x)
    → position_from one i xs ≡ position_from other i xs
position_from-alike one other i [] alike = refl
position_from-alike one other i (x ∷ xs) alike = λ j. if alike x j then Some i
    else position_from-alike one other (i + 1) xs alike j

-- an index is among those of the list
pub position_from-below : {X : Type 0} (test : X → Bool) (i : ℕ) (xs : List X) (index : ℕ)
    → position_from test i xs ≡ Some index
    → index < i + length xs
position_from-below test i [] index found = absurd (cc)
position_from-below test i (x ∷ xs) index found = by (test x)
    (position_from-below test (i + 1) xs index) found
  where
    by : (t : Bool)
        → (position_from test (i + 1) xs ≡ Some index → index < i + 1 + length xs)
        → (if t then Some i else position_from test (i + 1) xs) ≡ Some index
        → index < i + suc (length xs)
    by true further there = let e : i ≡ index = cc in omega arith
    by false further there = let below : index < i + 1 + length xs = further there in omega arith

-- what stands at the first index
pub record FoundAt {X : Type 0} (test : X → Bool) (i : ℕ) (xs : List X) (index : ℕ) : Type 0 where
  pub offset : ℕ
  pub item : X
  pub at : index ≡ i + offset
  pub there : slice_get xs offset ≡ Some item
  pub passes : test item ≡ true
  pub first : find test xs ≡ Some item

pub position_from-item : {X : Type 0} (test : X → Bool) (i : ℕ) (xs : List X) (index : ℕ)
    → position_from test i xs ≡ Some index
    → FoundAt test i xs index
position_from-item test i [] index found = absurd (cc)
position_from-item {X} test i (x ∷ xs) index found = by (test x) refl
    (position_from-item test (i + 1) xs index) found
  where
    by : (t : Bool)
        → test x ≡ t
        → (position_from test (i + 1) xs ≡ Some index → FoundAt test (i + 1) xs index)
        → (if t then Some i else position_from test (i + 1) xs) ≡ Some index
        → FoundAt test i (x ∷ xs) index
    by true t further there =
        let same : i ≡ index = cc in
        record {
          offset = 0;
          item = x;
          at = omega arith;
          there = refl;
          passes = t;
          first = ap
              (λ b. if b then Some x else find test xs) t;
        }
    by false t further there =
        let rest : FoundAt test (i + 1) xs index = further there in
        let at : index ≡ i + 1 + rest.offset = rest.at in
        record {
          offset = suc rest.offset;
          item = rest.item;
          at = omega arith;
          there = rest.there;
          passes = rest.passes;
          first = ap (λ b. if b then Some x else find test xs) t
              ∙ rest.first;
        }

-- a narrower test that passes the first item finds the same index
pub position_from-narrower : {X : Type 0} (one other : X → Bool) (i : ℕ) (xs : List X) (item : X)
    → find other xs ≡ Some item
    → one item ≡ true
    → ((x : X) → one x ≡ true → other x ≡ true)
    → position_from one i xs ≡ position_from other i xs
position_from-narrower one other i [] item first passes narrower = absurd (cc)
position_from-narrower {X} one other i (x ∷ xs) item first passes narrower = by (other x) refl
    (one x) refl (position_from-narrower one other (i + 1) xs item) first
  where
    by : (t : Bool) → other x ≡ t → (p : Bool) → one x ≡ p
        → (find other xs ≡ Some item
        → one item ≡ true
        → ((x : X) → one x ≡ true → other x ≡ true)
        → position_from one (i + 1) xs ≡ position_from other (i + 1) xs)
        → (if t then Some x else find other xs) ≡ Some item
        → (if p then Some i else position_from one (i + 1) xs)
        ≡ (if t then Some i else position_from other (i + 1) xs)
    by true t true p further there = refl
    by true t false p further there = let same : x ≡ item = cc in let passed : one x
        ≡ true = ap one same ∙ passes in absurd (cc)
    by false t true p further there = let wide : other x ≡ true = narrower x p in absurd (cc)
    by false t false p further there = further there passes narrower
