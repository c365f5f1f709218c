-- Gifts, handed out one by one.
use Rattle.std.proofs.Common.{◌≡◌, ℕ, zero, suc, ◌+◌, ◌<◌, ◌≤◌, List, [], ◌∷◌, ◌++◌, length, take}
use Rattle.std.proofs.Common.{refl, ap, sym, ◌∙◌, subst, arith, Option, Some, slice_get}
use Rattle.std.proofs.Common.{slice_set, get_or, length-append}
use Rattle.bz_base.specs.declared.refusals.Refusal.{Refusal}
use Rattle.bz_tree.specs.declared.tree.Found.{Found}
use Rattle.board_machine.specs.Boards.{Slot, map_places}
use Rattle.board_slots.specs.declared.gifts.Gift.{Gift}
use Rattle.board_slots.specs.Views.{IsGiftOf, handed, handed_slot}

-- a list in which an item is put where it stands is the same list
pub set-itself : {X : Type 0} (xs : List X) (at : ℕ) (x : X) → slice_get xs at ≡ Some x
    → xs ≡ slice_set xs at x
set-itself [] at x h = refl
set-itself (y ∷ xs) zero x h = let same : y ≡ x = cc in ap (λ z. z ∷ xs) same
set-itself (y ∷ xs) (suc at) x h = ap (λ zs. y ∷ zs) (set-itself xs at x h)

stands_below : {X : Type 0} (xs : List X) (at : ℕ) → at < length xs
    → (x : X) × (slice_get xs at ≡ Some x)
stands_below [] at h = absurd (omega arith)
stands_below (x ∷ xs) zero h = (x, refl)
stands_below (x ∷ xs) (suc at) h = stands_below xs at (omega arith)

length-set : {X : Type 0} (xs : List X) (at : ℕ) (x : X) → length (slice_set xs at x) ≡ length xs
length-set [] at x = refl
length-set (y ∷ xs) zero x = refl
length-set (y ∷ xs) (suc at) x = ap suc (length-set xs at x)

take-past : {X : Type 0} (xs : List X) (at : ℕ) → length xs ≤ at → take at xs ≡ xs
take-past [] zero h = refl
take-past [] (suc at) h = refl
take-past (x ∷ xs) zero h = absurd (omega arith)
take-past (x ∷ xs) (suc at) h = ap (λ ys. x ∷ ys) (take-past xs at (omega arith))

module _ {J V : Type 0} where
  -- the last gift may as well be handed out first
  pub handed-last : (gifts : List (Option (Gift V))) (gift : Option (Gift V))
      (slots : List (Slot J Found V Refusal)) (slot : Slot J Found V Refusal)
      → slice_get slots (length gifts) ≡ Some slot
      → handed (gifts ++ gift ∷ []) slots
      ≡ handed gifts (slice_set slots (length gifts) (handed_slot gift slot))
  handed-last gifts gift [] slot h = absurd (cc)
  handed-last [] gift (other ∷ slots) slot h =
      let same : other ≡ slot = cc in ap (λ one. handed_slot gift one ∷ slots) same
  handed-last (first ∷ gifts) gift (other ∷ slots) slot h =
      ap (λ rest. handed_slot first other ∷ rest) (handed-last gifts gift slots slot h)

  handed-more : (gifts : List (Option (Gift V))) (gift : Option (Gift V))
      (slots : List (Slot J Found V Refusal)) (slot : Slot J Found V Refusal)
      → length gifts ≡ length slots
      → handed (gifts ++ gift ∷ []) (slots ++ slot ∷ [])
      ≡ handed gifts slots ++ handed_slot gift slot ∷ []
  handed-more [] gift [] slot h = refl
  handed-more [] gift (other ∷ slots) slot h = absurd (omega arith)
  handed-more (first ∷ gifts) gift [] slot h = absurd (omega arith)
  handed-more (first ∷ gifts) gift (other ∷ slots) slot h =
      ap (λ rest. handed_slot first other ∷ rest) (handed-more gifts gift slots slot (omega arith))

map_places-more : {X : Type 0} (f : ℕ → X → X) (from : ℕ) (xs : List X) (x : X)
    → map_places f from (xs ++ x ∷ []) ≡ map_places f from xs ++ f (from + length xs) x ∷ []
map_places-more f from [] x = ap (λ n. f n x ∷ []) (omega arith)
map_places-more f from (y ∷ xs) x =
    let turn : suc from + length xs ≡ from + suc (length xs) = omega arith in
    ap (λ rest. f from y ∷ rest)
    (map_places-more f (suc from) xs x ∙ ap (λ n. map_places f (suc from) xs ++ f n x ∷ []) turn)

take-more : {X : Type 0} (xs : List X) (at : ℕ) (x : X) → at < length xs → x ≡ get_or xs at x
    → take (at + 1) xs ≡ take at xs ++ x ∷ []
take-more [] at x h e = absurd (omega arith)
take-more (y ∷ xs) zero x h e = ap (λ z. z ∷ []) (sym e)
take-more (y ∷ xs) (suc at) x h e =
    let next : suc at + 1 ≡ suc (at + 1) = omega arith in
    ap (λ n. take n (y ∷ xs)) next ∙ ap (λ zs. y ∷ zs) (take-more xs at x (omega arith) e)

length-take-below : {X : Type 0} (xs : List X) (at : ℕ) → at < length xs → length (take at xs) ≡ at
length-take-below [] at h = absurd (omega arith)
length-take-below (y ∷ xs) zero h = refl
length-take-below (y ∷ xs) (suc at) h = ap suc (length-take-below xs at (omega arith))

-- one more gift for one more job
pub gift_more : {J V : Type 0}
    (f : ℕ → Slot J Found V Refusal → Slot J Found V Refusal)
    (gifts : List (Option (Gift V))) (gift : Option (Gift V))
    (slots : List (Slot J Found V Refusal)) (at : ℕ) (slot : Slot J Found V Refusal)
    → length gifts ≡ at → at < length slots → slot ≡ get_or slots at slot
    → handed_slot gift slot ≡ f at slot → handed gifts (take at slots) ≡ map_places f 0 (take at slots)
    → handed (gifts ++ gift ∷ []) (take (at + 1) slots) ≡ map_places f 0 (take (at + 1) slots)
gift_more f gifts gift slots at slot long within stands is so =
    let more = take-more slots at slot within stands in
    let front = length-take-below slots at within in
    let turn : 0 + length (take at slots) ≡ at = omega (arith, front) in
    ap (handed (gifts ++ gift ∷ [])) more
    ∙ handed-more gifts gift (take at slots) slot (long ∙ sym front)
    ∙ ap (λ rest. rest ++ handed_slot gift slot ∷ []) so
    ∙ ap (λ one. map_places f 0 (take at slots) ++ one ∷ [])
    (is ∙ ap (λ n. f n slot) (sym turn))
    ∙ sym (map_places-more f 0 (take at slots) slot) ∙ ap (map_places f 0) (sym more)

module _ {J V : Type 0} where
  -- the same of a loop's invariant
  pub gift_step : (f : ℕ → Slot J Found V Refusal → Slot J Found V Refusal)
      (gifts new : List (Option (Gift V))) (gift : Option (Gift V))
      (slots : List (Slot J Found V Refusal)) (at : ℕ) (slot : Slot J Found V Refusal)
      → new ≡ gifts ++ gift ∷ [] → at < length slots → slot ≡ get_or slots at slot
      → handed_slot gift slot ≡ f at slot
      → (length gifts ≡ at) × (handed gifts (take at slots) ≡ map_places f 0 (take at slots))
      → (length new ≡ at + 1)
      × (handed new (take (at + 1) slots) ≡ map_places f 0 (take (at + 1) slots))
  gift_step f gifts new gift slots at slot more within stands is so = (
    ap length more ∙ length-append gifts (gift ∷ []) ∙ omega (arith, so.0),
    ap (λ all. handed all (take (at + 1) slots)) more
        ∙ gift_more f gifts gift slots at slot so.0 within stands is so.1,
  )

  pub gift_end : (f : ℕ → Slot J Found V Refusal → Slot J Found V Refusal)
      (gifts : List (Option (Gift V))) (slots : List (Slot J Found V Refusal)) (at : ℕ)
      → length slots ≤ at
      → (length gifts ≡ at) × (handed gifts (take at slots) ≡ map_places f 0 (take at slots))
      → handed gifts slots ≡ map_places f 0 slots
  gift_end f gifts slots at past so =
      subst (λ all. handed gifts all ≡ map_places f 0 all) (take-past slots at past) so.1

  -- one gift less to hand out
  pub one_less : (gifts all : List (Option (Gift V))) (gift : Option (Gift V))
      (slots new : List (Slot J Found V Refusal)) (place : ℕ)
      → all ≡ gifts ++ gift ∷ [] → length all ≤ length slots → place ≡ length gifts
      → IsGiftOf place gift slots new
      → (length gifts ≤ length new) × (handed gifts new ≡ handed all slots)
  one_less gifts all gift slots new place last room here hands =
      let many : length all ≡ length gifts + 1 = ap length last ∙ length-append gifts (gift ∷ []) in
      let stood = stands_below slots place (omega (arith, many, room, here)) in
      let is = hands stood.0 stood.1 in
      let long = length-set slots place (handed_slot gift stood.0) in (
        subst (λ xs. length gifts ≤ length xs) (sym is) (omega (arith, many, room, long)),
        ap (handed gifts) is
            ∙ ap (λ at. handed gifts (slice_set slots at (handed_slot gift stood.0))) here
            ∙ sym (handed-last gifts gift slots stood.0
            (subst (λ at. slice_get slots at ≡ Some stood.0) here stood.1))
            ∙ ap (λ xs. handed xs slots) (sym last),
      )
