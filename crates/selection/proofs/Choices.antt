-- The first of the highest members of a group, as the list of what it stands in grows.
use Rattle.std.proofs.Common.{◌≡◌, ℕ, ◌+◌, Bool, true, false, ◌&&◌, not, List, [], ◌∷◌, ◌++◌}
use Rattle.std.proofs.Common.{length, None, Some, Option, if◌then◌else◌, refl, ap, sym, ◌∙◌, arith}
use Rattle.std.proofs.Common.{append_assoc, append-nil, subst}
use Rattle.std.proofs.lemmas.List.Folds.{list_all-append}
use Rattle.std.specs.List.{list_all, position_from, slice_get}
use Rattle.std.specs.Option.{option_map_or}
use Rattle.selection.proofs.FirstIndexes.{FoundAt, position_from-alike, position_from-front}
use Rattle.selection.proofs.FirstIndexes.{position_from-item, position_from-last}
use Rattle.selection.proofs.FirstIndexes.{position_from-narrower}

-- the order: nothing is above itself, what is above is not below, and what is above a top is above
-- all that isn't above that top
pub record Heights (X : Type 0) (above : X → X → Bool) : Type 0 where
  pub irreflexive : (x : X) → above x x ≡ false
  pub asymmetric : (x y : X) → above x y ≡ true → above y x ≡ false
  pub lifted : (x y z : X) → above y x ≡ false → above z x ≡ true → above z y ≡ true

second : (b c : Bool) → (b && c) ≡ true → c ≡ true
second true c h = h
second false c h = absurd (cc)

module _ {X : Type 0} (member : X → Bool) (above : X → X → Bool) where
  abbrev pub is_top : List X → X → Bool
  is_top xs x = list_all (λ other. not (member other && above other x)) xs

  abbrev pub is_first : List X → X → Bool
  is_first xs x = member x && is_top xs x

  abbrev pub index : List X → Option ℕ
  index xs = position_from (is_first xs) 0 xs

  abbrev pub has_none : List X → Bool
  has_none xs = list_all (λ x. not (member x)) xs

  -- whether what is chosen so far stays beside one more item
  abbrev pub stays : List X → X → Option ℕ → Bool
  stays xs x chosen = option_map_or
      (λ i. option_map_or (λ other. not (above x other)) (slice_get xs i) false) chosen false

  abbrev pub next_index : List X → X → Option ℕ → Option ℕ
  next_index xs x chosen = if member x && not (stays xs x chosen) then Some (length xs) else chosen

  is_top-more : (xs : List X) (last x : X)
      → is_top (xs ++ last ∷ []) x ≡ (is_top xs x && (not (member last && above last x) && true))
  is_top-more xs last x = list_all-append (λ other. not (member other && above other x)) xs
      (last ∷ [])

  -- beside what is no member nothing changes
  is_first-other : (xs : List X) (last x : X)
      → member last ≡ false
      → is_first (xs ++ last ∷ []) x ≡ is_first xs x
  is_first-other xs last x out = by (member x) (is_top xs x) (is_top (xs ++ last ∷ []) x)
      (is_top-more xs last x ∙ ap (λ m. is_top xs x && (not (m && above last x) && true)) out)
    where
      by : (m t u : Bool) → u ≡ (t && (not (false && above last x) && true)) → (m && u) ≡ (m && t)
      by false t u e = refl
      by true true u e = e
      by true false u e = e

  -- a first member of the longer list is one of the shorter
  is_first-fewer : (xs : List X) (last x : X)
      → is_first (xs ++ last ∷ []) x ≡ true
      → is_first xs x ≡ true
  is_first-fewer xs last x h = by (member x) (is_top xs x) (is_top (xs ++ last ∷ []) x)
      (is_top-more xs last x) h
    where
      by : (m t u : Bool)
          → u ≡ (t && (not (member last && above last x) && true))
          → (m && u) ≡ true
          → (m && t) ≡ true
      by false t u e h = h
      by true true u e h = refl
      by true false u e h = cc

  -- a member that is not surpassed by the last stays first
  is_first-kept : (xs : List X) (last x : X)
      → is_first xs x ≡ true
      → above last x ≡ false
      → is_first (xs ++ last ∷ []) x ≡ true
  is_first-kept xs last x h low = by (member x) (is_top xs x) (is_top (xs ++ last ∷ []) x)
      (member last) (is_top-more xs last x ∙ ap (λ a. is_top xs x && (not (member last && a) &&
      true)) low) h
    where
      by : (m t u l : Bool)
          → u ≡ (t && (not (l && false) && true))
          → (m && t) ≡ true
          → (m && u) ≡ true
      by false t u l e h = h
      by true true u true e h = e
      by true true u false e h = e
      by true false u l e h = absurd (cc)

  -- a member that the last surpasses is not first
  is_first-surpassed : (xs : List X) (last x : X)
      → member last ≡ true
      → above last x ≡ true
      → is_first (xs ++ last ∷ []) x ≡ false
  is_first-surpassed xs last x there high = by (member x) (is_top xs x) (is_top (xs ++ last ∷ []) x)
      (is_top-more xs last x ∙ (λ i. is_top xs x && (not (there i && high i) && true)))
    where
      by : (m t u : Bool) → u ≡ (t && false) → (m && u) ≡ false
      by false t u e = refl
      by true true u e = e
      by true false u e = e

  -- where a list has no members, nothing of it is first
  none_first : (test : X → Bool)
      → ((x : X) → member x ≡ false → test x ≡ false)
      → (i : ℕ) (xs : List X)
      → has_none xs ≡ true
      → position_from test i xs ≡ None
  none_first test out i [] none = refl
  none_first test out i (x ∷ xs) none = by (member x) refl (test x) refl
      (none_first test out (i + 1) xs) none
    where
      by : (m : Bool)
          → member x ≡ m
          → (t : Bool)
          → test x ≡ t
          → (has_none xs ≡ true → position_from test (i + 1) xs ≡ None)
          → (not m && has_none xs) ≡ true
          → (if t then Some i else position_from test (i + 1) xs) ≡ None
      by true m t p further h = absurd (cc)
      by false m true p further h = let q : test x ≡ false = out x m in absurd (cc)
      by false m false p further h = further h

  -- where a list has no members, nothing of it is higher
  none_top : (x : X) (xs : List X) → has_none xs ≡ true → is_top xs x ≡ true
  none_top x [] none = refl
  none_top x (y ∷ xs) none = by (member y) (none_top x xs) none
    where
      by : (m : Bool)
          → (has_none xs ≡ true → is_top xs x ≡ true)
          → (not m && has_none xs) ≡ true
          → (not (m && above y x) && is_top xs x) ≡ true
      by true further h = absurd (cc)
      by false further h = further h

  -- what is above a top surpasses each member, so that none is first
  all_surpassed : Heights X above → (test : X → Bool) (top last : X) → above last top ≡ true
      → ((x : X) → member x ≡ false → test x ≡ false)
      → ((x : X) → member x ≡ true → above last x ≡ true → test x ≡ false)
      → (i : ℕ) (xs : List X) → is_top xs top ≡ true → position_from test i xs ≡ None
  all_surpassed heights test top last high out below i [] h = refl
  all_surpassed heights test top last high out below i (x ∷ xs) h =
      by (member x) refl (above x top) refl (test x) refl
      (all_surpassed heights test top last high out below (i + 1) xs) h
    where
      by : (m : Bool)
          → member x ≡ m
          → (a : Bool)
          → above x top ≡ a
          → (t : Bool)
          → test x ≡ t
          → (is_top xs top ≡ true → position_from test (i + 1) xs ≡ None)
          → (not (m && a) && is_top xs top) ≡ true
          → (if t then Some i else position_from test (i + 1) xs) ≡ None
      by m is_m a is_a false is_t further h = further (second (not (m && a)) (is_top xs top) h)
      by false is_m a is_a true is_t further h = let q : test x ≡ false = out x is_m in absurd (cc)
      by true is_m true is_a true is_t further h = absurd (cc)
      by true is_m false is_a true is_t further h = let q : test x
          ≡ false = below x is_m (heights.lifted top x last is_a high) in absurd (cc)

  -- what is above a top is a top of that list
  above_top : Heights X above
      → (top last : X)
      → above last top ≡ true
      → (xs : List X)
      → is_top xs top ≡ true
      → is_top xs last ≡ true
  above_top heights top last high [] h = refl
  above_top heights top last high (x ∷ xs) h = by (member x) (above x top) refl (above x last) refl
      (above_top heights top last high xs) h
    where
      by : (m a : Bool)
          → above x top ≡ a
          → (b : Bool)
          → above x last ≡ b
          → (is_top xs top ≡ true → is_top xs last ≡ true)
          → (not (m && a) && is_top xs top) ≡ true → (not (m && b) && is_top xs last) ≡ true
      by false a is_a b is_b further h = further h
      by true true is_a b is_b further h = absurd (cc)
      by true false is_a true is_b further h = let q : above x last
          ≡ false = heights.asymmetric last x (heights.lifted top x last is_a high) in absurd (cc)
      by true false is_a false is_b further h = further h

  -- the last item, a top of those before it, is first where it is a member
  last_first : Heights X above
      → (xs : List X) (last : X)
      → member last ≡ true
      → is_top xs last ≡ true
      → is_first (xs ++ last ∷ []) last ≡ true
  last_first heights xs last there top = (λ i. there i && is_top-more xs last last i)
      ∙ (λ i. top i && (not (there i && heights.irreflexive last i) && true))

  -- a group with a member has a choice
  abbrev pub HasChoice : List X → Type 0
  HasChoice xs = index xs ≡ None → has_none xs ≡ true

  grown_other : (xs : List X) (last : X) → member last ≡ false → index (xs ++ last ∷ []) ≡ index xs
  grown_other xs last out = by (index xs) refl
    where
      longer : position_from (is_first (xs ++ last ∷ [])) 0 xs ≡ index xs
      longer = position_from-alike _ _ 0 xs (λ x. is_first-other xs last x out)

      not_last : is_first (xs ++ last ∷ []) last ≡ false
      not_last = ap (λ m. m && is_top (xs ++ last ∷ []) last) out

      by : (chosen : Option ℕ) → index xs ≡ chosen → index (xs ++ last ∷ []) ≡ index xs
      by None e = position_from-last _ 0 xs last (longer ∙ e)
          ∙ ap (λ b. if b then Some (0 + length xs) else None) not_last ∙ sym e
      by (Some i) e = position_from-front _ 0 xs (last ∷ []) i (longer ∙ e) ∙ sym e

  grown_last : (xs : List X) (last : X)
      → position_from (is_first (xs ++ last ∷ [])) 0 xs ≡ None
      → is_first (xs ++ last ∷ []) last ≡ true
      → index (xs ++ last ∷ []) ≡ Some (length xs)
  grown_last xs last none first = position_from-last _ 0 xs last none
      ∙ ap (λ b. if b then Some (0 + length xs) else None) first ∙ ap Some zero_plus
    where
      zero_plus : 0 + length xs ≡ length xs
      zero_plus = omega arith

  -- a member beside no others is the choice
  grown_alone : Heights X above
      → (xs : List X) (last : X)
      → member last ≡ true
      → has_none xs ≡ true
      → index (xs ++ last ∷ []) ≡ Some (length xs)
  grown_alone heights xs last there none =
      grown_last xs last (none_first _ (λ x out. ap (λ m. m && is_top (xs ++ last ∷ []) x) out) 0 xs
      none) (last_first heights xs last there (none_top last xs none))

  -- a member above the choice is the next
  grown_above : Heights X above
      → (xs : List X) (last item : X)
      → member last ≡ true
      → is_first xs item ≡ true
      → above last item ≡ true
      → index (xs ++ last ∷ []) ≡ Some (length xs)
  grown_above heights xs last item there first high =
      let top : is_top xs item ≡ true = second (member item) (is_top xs item) first in
      grown_last xs last
      (all_surpassed heights _ item last high
      (λ x out. ap (λ m. m && is_top (xs ++ last ∷ []) x) out)
      (λ x m a. is_first-surpassed xs last x there a) 0 xs top)
      (last_first heights xs last there (above_top heights item last high xs top))

  -- a member that isn't above the choice leaves it
  grown_below : (xs : List X) (last : X) (i : ℕ)
      → index xs ≡ Some i
      → (found : FoundAt (is_first xs) 0 xs i)
      → above last found.item ≡ false
      → index (xs ++ last ∷ []) ≡ Some i
  grown_below xs last i e found low =
      position_from-front _ 0 xs (last ∷ []) i
      (position_from-narrower _ _ 0 xs found.item found.first
      (is_first-kept xs last found.item found.passes low) (is_first-fewer xs last) ∙ e)

  stays-none : (xs : List X) (last : X)
      → next_index xs last None ≡ (if member last then Some (length xs) else None)
  stays-none xs last = by (member last)
    where
      by : (m : Bool)
          → (if m && not false then Some (length xs) else None)
          ≡ (if m then Some (length xs) else None)
      by true = refl
      by false = refl

  stays-some : (xs : List X) (last : X) (i : ℕ) (found : FoundAt (is_first xs) 0 xs i)
      → stays xs last (Some i) ≡ not (above last found.item)
  stays-some xs last i found =
      let same : i ≡ found.offset = omega (arith, found.at) in
      ap (λ other. option_map_or (λ item. not (above last item)) other false)
      (ap (slice_get xs) same ∙ found.there)

  -- one more member: it is the choice where the one so far doesn't stay
  grown_member : Heights X above
      → (xs : List X) (last : X)
      → member last ≡ true
      → HasChoice xs
      → index (xs ++ last ∷ []) ≡ next_index xs last (index xs)
  grown_member heights xs last there chosen = by (index xs) refl
    where
      next : (placed : Option ℕ) (s : Bool)
          → stays xs last placed ≡ s
          → next_index xs last placed ≡ (if not s then Some (length xs) else placed)
      next placed s e = λ i. if there i && not (e i) then Some (length xs) else placed

      at : (i : ℕ)
          → index xs ≡ Some i
          → (found : FoundAt (is_first xs) 0 xs i)
          → (a : Bool)
          → above last found.item ≡ a
          → index (xs ++ last ∷ []) ≡ next_index xs last (Some i)
      at i e found true a = grown_above heights xs last found.item there found.passes a
          ∙ sym (next (Some i) false (stays-some xs last i found ∙ ap not a))
      at i e found false a = grown_below xs last i e found a
          ∙ sym (next (Some i) true (stays-some xs last i found ∙ ap not a))

      by : (placed : Option ℕ)
          → index xs ≡ placed
          → index (xs ++ last ∷ []) ≡ next_index xs last (index xs)
      by None e = grown_alone heights xs last there (chosen e)
          ∙ sym (ap (next_index xs last) e ∙ next None false refl)
      by (Some i) e = let found = position_from-item _ 0 xs i e in at i e found _ refl
          ∙ ap (next_index xs last) (sym e)

  grown_either : Heights X above
      → (xs : List X) (last : X)
      → HasChoice xs
      → index (xs ++ last ∷ []) ≡ next_index xs last (index xs)
  grown_either heights xs last chosen = by (member last) refl
    where
      by : (m : Bool) → member last ≡ m → index (xs ++ last ∷ []) ≡ next_index xs last (index xs)
      by true there = grown_member heights xs last there chosen
      by false out = grown_other xs last out
          ∙ sym (ap (λ m. if m && not (stays xs last (index xs)) then Some (length xs) else index
          xs) out)

  HasChoice-grown : Heights X above
      → (xs : List X) (last : X)
      → HasChoice xs
      → HasChoice (xs ++ last ∷ [])
  HasChoice-grown heights xs last chosen none = list_all-append (λ x. not (member x)) xs (last ∷ [])
      ∙ by (member last) (index xs) refl (stays xs last (index xs)) refl
      (sym (grown_either heights xs last chosen) ∙ none)
    where
      by : (m : Bool) (placed : Option ℕ)
          → index xs ≡ placed
          → (s : Bool)
          → stays xs last (index xs) ≡ s
          → (if m && not s then Some (length xs) else index xs) ≡ None
          → (has_none xs && (not m && true)) ≡ true
      by true placed e false is_s h = absurd (cc)
      by true None e true is_s h = let q : stays xs last (index xs)
          ≡ false = ap (stays xs last) e in absurd (cc)
      by true (Some i) e true is_s h = absurd (cc)
      by false placed e s is_s h = ap (λ b. b && true) (chosen h)

  pub HasChoice-more : Heights X above → (xs more : List X) → HasChoice xs → HasChoice (xs ++ more)
  HasChoice-more heights xs [] chosen = subst HasChoice (sym (append-nil xs)) chosen
  HasChoice-more heights xs (x ∷ more) chosen = subst HasChoice (append_assoc xs (x ∷ []) more)
      (HasChoice-more heights (xs ++ x ∷ []) more (HasChoice-grown heights xs x chosen))

  -- the choice beside one more item
  pub index-grown : Heights X above
      → (xs : List X) (last : X)
      → index (xs ++ last ∷ []) ≡ next_index xs last (index xs)
  index-grown heights xs last = grown_either heights xs last
      (HasChoice-more heights [] xs (λ none. refl))
