-- Gifts that are right where they are handed, and for each job that is to change, make of the list
-- of jobs what the machine makes of it.
use Rattle.std.proofs.Common.{◌≡◌, ◌≢◌, ℕ, zero, suc, ◌+◌, ◌<◌, ◌≤◌, ◌==◌, Bool, true, false, List, []}
use Rattle.std.proofs.Common.{◌∷◌, ◌++◌, refl, ap, sym, ◌∙◌, subst, arith, if◌then◌else◌, ◌⊎◌}
use Rattle.std.proofs.Common.{inl, inr, Option, None, Some, option_map, slice_get, drop, length}
use Rattle.std.specs.Prelude.{MatchBool, is_some}
use Rattle.std.proofs.lemmas.Option.{slice_get_within}
use Rattle.std.proofs.lemmas.Bool.Decides.{nat_tests}
use Rattle.bz_base.specs.declared.refusals.Refusal.{Refusal}
use Rattle.bz_tree.specs.declared.tree.Found.{Found}
use Rattle.board_laws.specs.Works
use Rattle.board_laws.specs.Works.{Value}
use Rattle.board_machine.specs.Boards.{Slot, State, map_places, next_at, next_in, next_of, way_to}
use Rattle.board_machine.specs.Boards.{Queued, Claimed, OnFile, OnJob, Valued, RefusedWith}
use Rattle.board_machine.specs.Moves.{hand_file, shelved_state, spread_refusal, with_value}
use Rattle.board_machine.specs.Moves.{woken_state}
use Rattle.board_machine.proofs.Slots.{map_places-stands, get-each}
use Rattle.board_slots.specs.Views.{file_need_of, handed_state, woken}
use Rattle.board_slots.specs.declared.gifts.Gift.{Gift}
use Rattle.board_jobs.specs.Gifts.{AddsGift, AddsIf, all_handed, file_need_at, file_need_in}
use Rattle.board_jobs.specs.Gifts.{given_slot, handed_at, is_at, places_of, waits_for}
use Rattle.board_jobs.specs.Indexes.{AllFit, Has, Index, here, further, list_at}
use Rattle.board_jobs.proofs.IndexLists.{has-front, has-last}

-- lists that have the same at each place are the same
pub same_at_each : {X : Type 0} (xs ys : List X)
    → ((at : ℕ) → slice_get xs at ≡ slice_get ys at) → xs ≡ ys
same_at_each [] [] all = refl
same_at_each [] (y ∷ ys) all = let first = all 0 in absurd (cc)
same_at_each (x ∷ xs) [] all = let first = all 0 in absurd (cc)
same_at_each (x ∷ xs) (y ∷ ys) all =
    let first = all 0 in
    let same : x ≡ y = cc in
    ap (λ z. z ∷ xs) same
    ∙ ap (λ zs. y ∷ zs) (same_at_each xs ys (λ at. all (suc at)))

places_more : {V : Type 0} (gifts : List (ℕ × Gift V)) (at : ℕ) (gift : Gift V)
    → places_of (gifts ++ (at, gift) ∷ []) ≡ places_of gifts ++ at ∷ []
places_more [] at gift = refl
places_more (one ∷ gifts) at gift = ap (λ places. one.0 ∷ places) (places_more gifts at gift)

-- nothing stands past the end
pub handed_past : {J V : Type 0} (place : ℕ) (gift : Gift V) (slots : List (Slot J Found V Refusal))
    → length slots ≤ place → slots ≡ handed_at place gift slots
handed_past {J} {V} place gift slots past = same_at_each slots (handed_at place gift slots)
    (λ at. by at (slice_get slots at) refl)
  where
    f : ℕ → Slot J Found V Refusal → Slot J Found V Refusal
    f = λ k other. if k == place then given_slot gift other else other

    by : (at : ℕ) (o : Option (Slot J Found V Refusal)) → slice_get slots at ≡ o
        → slice_get slots at ≡ slice_get (handed_at place gift slots) at
    by at None e = e ∙ sym (get-each f 0 slots at ∙ ap (option_map (f (0 + at))) e)
    by at (Some slot) e =
        let within = slice_get_within slots at slot e in
        let off : at == place ≡ false = grind (arith, nat_tests) in
        e ∙ sym (map_places-stands f slots at slot e
        ∙ ap (λ b. Some (if b then given_slot gift slot else slot)) off)

-- the last gift is handed out first
pub handed-last : {J V : Type 0} (gifts : List (ℕ × Gift V)) (place : ℕ) (gift : Gift V)
    (slots : List (Slot J Found V Refusal))
    → all_handed (gifts ++ (place, gift) ∷ []) slots ≡ all_handed gifts (handed_at place gift slots)
handed-last [] place gift slots = refl
handed-last (first ∷ gifts) place gift slots =
    ap (handed_at first.0 first.1) (handed-last gifts place gift slots)

module _ {J V : Type 0} (goal : ℕ → Slot J Found V Refusal → Slot J Found V Refusal)
    (slots : List (Slot J Found V Refusal)) where
  -- by the gift the job at its place comes to what it is to be, and stays so
  pub record IsRight (at : ℕ) (gift : Gift V) : Type 0 where
    pub once : (slot : Slot J Found V Refusal) → slice_get slots at ≡ Some slot
        → given_slot gift slot ≡ goal at slot
    pub twice : (slot : Slot J Found V Refusal) → slice_get slots at ≡ Some slot
        → given_slot gift (goal at slot) ≡ goal at slot

  pub data AreRight : List (ℕ × Gift V) → Type 0 where
    none : AreRight []
    one : {at : ℕ} {gift : Gift V} {gifts : List (ℕ × Gift V)} → IsRight at gift → AreRight gifts
        → AreRight ((at, gift) ∷ gifts)

  pub right_more : (gifts : List (ℕ × Gift V)) (at : ℕ) (gift : Gift V) → AreRight gifts
      → IsRight at gift → AreRight (gifts ++ (at, gift) ∷ [])
  right_more [] at gift none is = one is none
  right_more (first ∷ gifts) at gift (one so rest) is = one so (right_more gifts at gift rest is)

  -- what stands at a place once the gifts are handed out
  IsHanded : List (ℕ × Gift V) → ℕ → Slot J Found V Refusal → Type 0
  IsHanded gifts at slot =
      (slice_get (all_handed gifts slots) at ≡ Some (goal at slot))
      ⊎ ((slice_get (all_handed gifts slots) at ≡ Some slot) × (Has at (places_of gifts) → ⊥))

  handed_each : (gifts : List (ℕ × Gift V)) → AreRight gifts → (at : ℕ)
      (slot : Slot J Found V Refusal) → slice_get slots at ≡ Some slot → IsHanded gifts at slot
  unfolding IsHanded
  handed_each [] none at slot stands = inr (stands, λ has. elim has [ ])
  handed_each ((place, gift) ∷ gifts) (one is rest) at slot stands =
      go (at == place) refl (handed_each gifts rest at slot stands)
    where
      f : ℕ → Slot J Found V Refusal → Slot J Found V Refusal
      f = λ k other. if k == place then given_slot gift other else other

      go : (b : Bool) → (at == place) ≡ b
          → (slice_get (all_handed gifts slots) at ≡ Some (goal at slot))
          ⊎ ((slice_get (all_handed gifts slots) at ≡ Some slot)
          × (Has at (places_of gifts) → ⊥))
          → (slice_get (handed_at place gift (all_handed gifts slots)) at ≡ Some (goal at slot))
          ⊎ ((slice_get (handed_at place gift (all_handed gifts slots)) at ≡ Some slot)
          × (Has at (place ∷ places_of gifts) → ⊥))
      go true on (inl now) =
          let same : at ≡ place = grind (arith, nat_tests) in
          let here_is : slice_get slots place ≡ Some slot = subst (λ k. slice_get slots k ≡ Some slot) same stands in
          let kept = subst (λ k. given_slot gift (goal k slot) ≡ goal k slot) (sym same) (is.twice slot here_is) in
          inl (map_places-stands f (all_handed gifts slots) at (goal at slot) now
          ∙ ap (λ b. Some (if b then given_slot gift (goal at slot) else goal at slot)) on
          ∙ ap Some kept)
      go true on (inr now) =
          let same : at ≡ place = grind (arith, nat_tests) in
          let here_is : slice_get slots place ≡ Some slot = subst (λ k. slice_get slots k ≡ Some slot) same stands in
          let made = subst (λ k. given_slot gift slot ≡ goal k slot) (sym same) (is.once slot here_is) in
          inl (map_places-stands f (all_handed gifts slots) at slot now.0
          ∙ ap (λ b. Some (if b then given_slot gift slot else slot)) on
          ∙ ap Some made)
      go false off (inl now) =
          inl (map_places-stands f (all_handed gifts slots) at (goal at slot) now
          ∙ ap (λ b. Some (if b then given_slot gift (goal at slot) else goal at slot)) off)
      go false off (inr now) =
          inr (
            map_places-stands f (all_handed gifts slots) at slot now.0
                ∙ ap (λ b. Some (if b then given_slot gift slot else slot)) off,
            apart,
          )
        where
          apart : Has at (place ∷ places_of gifts) → ⊥
          apart (here e) = absurd (grind (arith, nat_tests))
          apart (further h) = now.1 h

  handed_none : (gifts : List (ℕ × Gift V)) (at : ℕ) → slice_get slots at ≡ None
      → slice_get (all_handed gifts slots) at ≡ None
  handed_none [] at e = e
  handed_none (gift ∷ gifts) at e =
      get-each (λ k other. if k == gift.0 then given_slot gift.1 other else other) 0 (all_handed gifts slots) at
      ∙ ap (option_map (λ other. if 0 + at == gift.0 then given_slot gift.1 other else other)) (handed_none gifts at e)

  pub all_handed-is : (gifts : List (ℕ × Gift V)) → AreRight gifts
      → ((at : ℕ) (slot : Slot J Found V Refusal) → slice_get slots at ≡ Some slot
      → Has at (places_of gifts) ⊎ (goal at slot ≡ slot))
      → all_handed gifts slots ≡ map_places goal 0 slots
  unfolding IsHanded
  all_handed-is gifts right covers = same_at_each (all_handed gifts slots) (map_places goal 0 slots)
      (λ at. by at (slice_get slots at) refl)
    where
      by : (at : ℕ) (o : Option (Slot J Found V Refusal)) → slice_get slots at ≡ o
          → slice_get (all_handed gifts slots) at ≡ slice_get (map_places goal 0 slots) at
      by at None e = handed_none gifts at e ∙ sym (get-each goal 0 slots at ∙ ap (option_map (goal (0 + at))) e)
      by at (Some slot) e = go (handed_each gifts right at slot e) (covers at slot e)
        where
          whole : slice_get (map_places goal 0 slots) at ≡ Some (goal at slot)
          whole = map_places-stands goal slots at slot e

          go : IsHanded gifts at slot → Has at (places_of gifts) ⊎ (goal at slot ≡ slot)
              → slice_get (all_handed gifts slots) at ≡ slice_get (map_places goal 0 slots) at
          go (inl now) c = now ∙ sym whole
          go (inr now) (inl has) = absurd (now.1 has)
          go (inr now) (inr same) = now.0 ∙ ap Some (sym same) ∙ sym whole

  -- gifts so far, of which those that are left to be made are told
  pub record AreMade (test : ℕ → Bool) (Left : ℕ → Type 0) (gifts : List (ℕ × Gift V)) : Type 0 where
    pub right : AreRight gifts
    pub rest : (at : ℕ) → test at ≡ true → Has at (places_of gifts) ⊎ Left at

  pub made_more : (test : ℕ → Bool) (Left Less : ℕ → Type 0) (gifts new : List (ℕ × Gift V)) (at : ℕ)
      (f : State Found V Refusal → State Found V Refusal)
      → ((slot : Slot J Found V Refusal) → slice_get slots at ≡ Some slot
      → (record { job = slot.job; state = f slot.state } ≡ goal at slot)
      × (record { job = (goal at slot).job; state = f (goal at slot).state } ≡ goal at slot))
      → ((other : ℕ) → Left other → (other ≡ at) ⊎ Less other)
      → AddsGift f at gifts new → AreMade test Left gifts → AreMade test Less new
  made_more test Left Less gifts new at f fits less adds made =
      record {
        right = subst (λ all. AreRight all) (sym adds.2) (right_more gifts at adds.0 made.right
            (record {
              once = λ slot stands. ap (λ s. record { job = slot.job; state = s }) (adds.1 slot.state) ∙ (fits slot stands).0;
              twice = λ slot stands. ap (λ s. record { job = (goal at slot).job; state = s }) (adds.1 (goal at slot).state) ∙ (fits slot stands).1;
            }));
        rest = λ other passes. subst (λ all. Has other (places_of all) ⊎ Less other) (sym adds.2)
            (subst (λ places. Has other places ⊎ Less other) (sym (places_more gifts at adds.0)) (go other (made.rest other passes)));
      }
    where
      go : (other : ℕ) → Has other (places_of gifts) ⊎ Left other
          → Has other (places_of gifts ++ at ∷ []) ⊎ Less other
      go other (inl has) = inl (has-front (at ∷ []) has)
      go other (inr left) = one_of (less other left)
        where
          one_of : (other ≡ at) ⊎ Less other → Has other (places_of gifts ++ at ∷ []) ⊎ Less other
          one_of (inl same) = inl (subst (λ k. Has k (places_of gifts ++ at ∷ [])) (sym same) (has-last at (places_of gifts)))
          one_of (inr left) = inr left

  pub made_same : (test : ℕ → Bool) (Left Less : ℕ → Type 0) (gifts new : List (ℕ × Gift V)) (at : ℕ)
      → test at ≡ false
      → ((other : ℕ) → Left other → (other ≡ at) ⊎ Less other)
      → new ≡ gifts → AreMade test Left gifts → AreMade test Less new
  made_same test Left Less gifts new at fails less same made =
      subst (λ all. AreMade test Less all) (sym same)
      (record { right = made.right; rest = λ other passes. go other passes (made.rest other passes) })
    where
      go : (other : ℕ) → test other ≡ true → Has other (places_of gifts) ⊎ Left other
          → Has other (places_of gifts) ⊎ Less other
      go other passes (inl has) = inl has
      go other passes (inr left) = one_of (less other left)
        where
          one_of : (other ≡ at) ⊎ Less other → Has other (places_of gifts) ⊎ Less other
          one_of (inl is) = let turned : test other ≡ false = ap test is ∙ fails in absurd (cc)
          one_of (inr left) = inr left

-- what jobs come to once the job at a place has a value, once the file of a need is found, and once
-- the job at a place is refused
abbrev pub value_goal : {J V : Type 0} → ℕ → V → ℕ → Slot J Found V Refusal
    → Slot J Found V Refusal
value_goal place v at slot =
    record {
      job = slot.job;
      state = if at == place then Valued v else woken_state place v slot.state;
    }

abbrev pub file_goal : {J V : Type 0} → ℕ → Found → ℕ → Slot J Found V Refusal
    → Slot J Found V Refusal
file_goal need found at slot = record { job = slot.job; state = shelved_state need found slot.state }

abbrev pub refusal_goal : {J V : Type 0} → List (Slot J Found V Refusal) → ℕ → Refusal → ℕ
    → Slot J Found V Refusal → Slot J Found V Refusal
refusal_goal slots place r at slot =
    if is_some (way_to slots place at)
    then record { job = slot.job; state = RefusedWith r } else slot

module _ {V : Type 0} where
  woken_same : (place : ℕ) (v : V) (state : State Found V Refusal)
      → is_at place (next_of state) ≡ false → woken_state place v state ≡ state
  woken_same place v (OnJob answers need other) off = rw off refl
  woken_same place v (Queued answers) off = refl
  woken_same place v (Claimed worker count) off = refl
  woken_same place v (OnFile answers need) off = refl
  woken_same place v (Valued w) off = refl
  woken_same place v (RefusedWith r) off = refl

  woken_once : (place : ℕ) (v : V) (state : State Found V Refusal)
      → is_at place (next_of state) ≡ true
      → (woken (Value v) state ≡ woken_state place v state)
      × (woken (Value v) (woken_state place v state) ≡ woken_state place v state)
  woken_once place v (OnJob answers need other) on = rw on (refl, refl)
  woken_once place v (Queued answers) on = absurd (cc)
  woken_once place v (Claimed worker count) on = absurd (cc)
  woken_once place v (OnFile answers need) on = absurd (cc)
  woken_once place v (Valued w) on = absurd (cc)
  woken_once place v (RefusedWith r) on = absurd (cc)

  shelved_same : (need : ℕ) (found : Found) (state : State Found V Refusal)
      → is_at need (file_need_of state) ≡ false → shelved_state need found state ≡ state
  shelved_same need found (OnFile answers other) off = rw off refl
  shelved_same need found (Queued answers) off = refl
  shelved_same need found (Claimed worker count) off = refl
  shelved_same need found (OnJob answers other place) off = refl
  shelved_same need found (Valued w) off = refl
  shelved_same need found (RefusedWith r) off = refl

  shelved_once : (need : ℕ) (found : Found) (state : State Found V Refusal)
      → is_at need (file_need_of state) ≡ true
      → (woken (Works.Found found) state ≡ shelved_state need found state)
      × (woken (Works.Found found) (shelved_state need found state) ≡ shelved_state need found state)
  shelved_once need found (OnFile answers other) on = rw on (refl, refl)
  shelved_once need found (Queued answers) on = absurd (cc)
  shelved_once need found (Claimed worker count) on = absurd (cc)
  shelved_once need found (OnJob answers other place) on = absurd (cc)
  shelved_once need found (Valued w) on = absurd (cc)
  shelved_once need found (RefusedWith r) on = absurd (cc)

-- a list from a place on, and from the next one on
less_left : (ns : List ℕ) (i at : ℕ) → drop i ns ≡ at ∷ drop (i + 1) ns → (other : ℕ)
    → Has other (drop i ns) → (other ≡ at) ⊎ Has other (drop (i + 1) ns)
less_left ns i at is other has = go (drop i ns) is has
  where
    go : (left : List ℕ) → left ≡ at ∷ drop (i + 1) ns → Has other left
        → (other ≡ at) ⊎ Has other (drop (i + 1) ns)
    go [] e h = elim h [ ]
    go (n ∷ rest) e (here same) = let is : n ≡ at = cc in inl (sym same ∙ is)
    go (n ∷ rest) e (further h) = let is : rest ≡ drop (i + 1) ns = cc in
        inr (subst (λ ns. Has other ns) is h)

pub drop-past : {X : Type 0} (i : ℕ) (ns : List X) → length ns ≤ i → drop i ns ≡ []
drop-past zero [] h = refl
drop-past (suc i) [] h = refl
drop-past zero (n ∷ ns) h = absurd (omega (arith, h))
drop-past (suc i) (n ∷ ns) h = drop-past i ns (omega (arith, h))

module _ {J V : Type 0} (slots : List (Slot J Found V Refusal)) where
  -- the index has the places of the jobs that wait
  pub all_waiting : (index : Index) (place : ℕ) → AllFit index slots → (k : ℕ)
      → waits_for slots place k ≡ true → Has k (list_at index.waiting place)
  all_waiting index place all k passes =
      go (k == place) refl (slice_get slots k) refl passes
    where
      next_is : (o : Option ℕ) → is_at place o ≡ true → o ≡ Some place
      next_is None e = absurd (cc)
      next_is (Some other) e = ap Some (grind (arith, nat_tests))

      go : (b : Bool) → (k == place) ≡ b → (o : Option (Slot J Found V Refusal))
          → slice_get slots k ≡ o
          → (if b then false else is_at place (next_in o)) ≡ true
          → Has k (list_at index.waiting place)
      go true e o f so = absurd (cc)
      go false e None f so = absurd (cc)
      go false e (Some slot) f so =
          (all k slot f).waits place (next_is (next_of slot.state) so)

  pub all_reading : (index : Index) (need : ℕ) → AllFit index slots → (k : ℕ)
      → is_at need (file_need_at slots k) ≡ true → Has k (list_at index.reading need)
  all_reading index need all k passes = go (slice_get slots k) refl passes
    where
      need_is : (o : Option ℕ) → is_at need o ≡ true → o ≡ Some need
      need_is None e = absurd (cc)
      need_is (Some other) e = ap Some (grind (arith, nat_tests))

      go : (o : Option (Slot J Found V Refusal)) → slice_get slots k ≡ o
          → is_at need (file_need_in o) ≡ true → Has k (list_at index.reading need)
      go None f so = absurd (cc)
      go (Some slot) f so = (all k slot f).reads need (need_is (file_need_of slot.state) so)

  -- the value of the job at a place, handed to those that wait for it
  pub record ValueMade (place : ℕ) (v : V) (left : List ℕ) (gifts : List (ℕ × Gift V)) : Type 0 where
    pub first : Has place (places_of gifts)
    pub made : AreMade (value_goal place v) slots (waits_for slots place) (λ k. Has k left) gifts

  pub value_first : (place : ℕ) (v : V) (left : List ℕ) (none_yet gifts : List (ℕ × Gift V))
      → none_yet ≡ [] → AddsGift (λ state. Valued v) place none_yet gifts
      → ((k : ℕ) → waits_for slots place k ≡ true → Has k left)
      → ValueMade place v left gifts
  value_first place v left none_yet gifts empty (gift, gives, is) waiting =
      subst (λ all. ValueMade place v left all)
      (sym (is ∙ ap (λ all. all ++ (place, gift) ∷ []) empty)) (record {
        first = here refl;
        made = record {
          right = one (record {
            once = λ slot stands. ap (λ s. record { job = slot.job; state = s }) (gives slot.state ∙ sym (on slot));
            twice = λ slot stands. ap (λ s. record { job = slot.job; state = s })
                (gives (value_goal place v place slot).state ∙ sym (on slot));
          }) none;
          rest = λ k passes. inr (waiting k passes);
        };
      })
    where
      on : (slot : Slot J Found V Refusal)
          → (if place == place then Valued v else woken_state place v slot.state) ≡ Valued v
      on slot = let same : place == place ≡ true = grind (arith, nat_tests) in rw same refl

  pub value_more : (place : ℕ) (v : V) (ns : List ℕ) (i at : ℕ) (gifts new : List (ℕ × Gift V))
      → drop i ns ≡ at ∷ drop (i + 1) ns
      → AddsIf (waits_for slots place at) (woken (Value v)) at gifts new
      → ValueMade place v (drop i ns) gifts → ValueMade place v (drop (i + 1) ns) new
  value_more place v ns i at gifts new is adds so = go (waits_for slots place at) refl adds
    where
      go : (b : Bool) → waits_for slots place at ≡ b
          → MatchBool b (AddsGift (woken (Value v)) at gifts new) (new ≡ gifts)
          → ValueMade place v (drop (i + 1) ns) new
      go true on adds =
          record {
            first = subst (λ all. Has place (places_of all)) (sym adds.2)
                (subst (λ places. Has place places) (sym (places_more gifts at adds.0)) (has-front (at ∷ []) so.first));
            made = made_more (value_goal place v) slots (waits_for slots place) (λ k. Has k (drop i ns))
                (λ k. Has k (drop (i + 1) ns)) gifts new at (woken (Value v))
                (λ slot stands. both slot stands (at == place) refl (next_at slots at) refl on)
                (less_left ns i at is) adds so.made;
          }
        where
          both : (slot : Slot J Found V Refusal) → slice_get slots at ≡ Some slot
              → (b : Bool) → (at == place) ≡ b → (o : Option ℕ) → next_at slots at ≡ o
              → (if b then false else is_at place o) ≡ true
              → (record { job = slot.job; state = woken (Value v) slot.state } ≡ value_goal place v at slot)
              × (record { job = slot.job; state = woken (Value v) (value_goal place v at slot).state } ≡ value_goal place v at slot)
          both slot stands true e o f passes = absurd (cc)
          both slot stands false e o f passes =
              let next : next_of slot.state ≡ o = sym (ap next_in stands) ∙ f in
              let came = woken_once place v slot.state (ap (is_at place) next ∙ passes) in
              rw e (ap (λ s. record { job = slot.job; state = s }) came.0, ap (λ s. record { job = slot.job; state = s }) came.1)
      go false off same =
          record {
            first = subst (λ all. Has place (places_of all)) (sym same) so.first;
            made = made_same (value_goal place v) slots (waits_for slots place) (λ k. Has k (drop i ns))
                (λ k. Has k (drop (i + 1) ns)) gifts new at off (less_left ns i at is) same so.made;
          }

  pub value_made : (place : ℕ) (v : V) (left : List ℕ) (gifts : List (ℕ × Gift V)) → left ≡ []
      → ValueMade place v left gifts → all_handed gifts slots ≡ with_value place v slots
  value_made place v left gifts done so =
      all_handed-is (value_goal place v) slots gifts so.made.right
      (λ at slot stands. covers at slot stands (at == place) refl (is_at place (next_of slot.state)) refl)
    where
      covers : (at : ℕ) (slot : Slot J Found V Refusal) → slice_get slots at ≡ Some slot
          → (b : Bool) → (at == place) ≡ b → (c : Bool) → is_at place (next_of slot.state) ≡ c
          → Has at (places_of gifts) ⊎ (value_goal place v at slot ≡ slot)
      covers at slot stands true e c f = let same : place ≡ at = grind (arith, nat_tests) in
          inl (subst (λ k. Has k (places_of gifts)) same so.first)
      covers at slot stands false e true f =
          let next : is_at place (next_at slots at) ≡ true = ap (λ o. is_at place (next_in o)) stands ∙ f in
          by (so.made.rest at (rw (e, next) refl))
        where
          by : Has at (places_of gifts) ⊎ Has at left → Has at (places_of gifts) ⊎ (value_goal place v at slot ≡ slot)
          by (inl has) = inl has
          by (inr has) = nothing (subst (λ ns. Has at ns) done has)
            where
              nothing : Has at [] → Has at (places_of gifts) ⊎ (value_goal place v at slot ≡ slot)
              nothing h = elim h [ ]
      covers at slot stands false e false f =
          inr (rw e (ap (λ s. record { job = slot.job; state = s }) (woken_same place v slot.state f)))

  -- what was found at the file of a need, handed to those that wait for it
  abbrev pub FileMade : ℕ → Found → List ℕ → List (ℕ × Gift V) → Type 0
  FileMade need found left gifts =
      AreMade (file_goal need found) slots (λ k. is_at need (file_need_at slots k)) (λ k. Has k left) gifts

  pub file_first : (need : ℕ) (found : Found) (left : List ℕ) (gifts : List (ℕ × Gift V))
      → gifts ≡ [] → ((k : ℕ) → is_at need (file_need_at slots k) ≡ true → Has k left)
      → FileMade need found left gifts
  file_first need found left gifts is reading =
      subst (λ all. FileMade need found left all) (sym is)
      (record { right = none; rest = λ k passes. inr (reading k passes) })

  pub file_more : (need : ℕ) (found : Found) (ns : List ℕ) (i at : ℕ) (gifts new : List (ℕ × Gift V))
      → drop i ns ≡ at ∷ drop (i + 1) ns
      → AddsIf (is_at need (file_need_at slots at)) (woken (Works.Found found)) at gifts new
      → FileMade need found (drop i ns) gifts → FileMade need found (drop (i + 1) ns) new
  file_more need found ns i at gifts new is adds so =
      go (is_at need (file_need_at slots at)) refl adds
    where
      go : (b : Bool) → is_at need (file_need_at slots at) ≡ b
          → MatchBool b (AddsGift (woken (Works.Found found)) at gifts new) (new ≡ gifts)
          → FileMade need found (drop (i + 1) ns) new
      go true on adds = made_more (file_goal need found) slots (λ k. is_at need (file_need_at slots k))
          (λ k. Has k (drop i ns)) (λ k. Has k (drop (i + 1) ns)) gifts new at (woken (Works.Found found))
          (λ slot stands. both slot stands) (less_left ns i at is) adds so
        where
          both : (slot : Slot J Found V Refusal) → slice_get slots at ≡ Some slot
              → (record { job = slot.job; state = woken (Works.Found found) slot.state } ≡ file_goal need found at slot)
              × (record { job = slot.job; state = woken (Works.Found found) (shelved_state need found slot.state) } ≡ file_goal need found at slot)
          both slot stands =
              let came = shelved_once need found slot.state
              (ap (λ o. is_at need (file_need_in o)) (sym stands) ∙ on) in
              (ap (λ s. record { job = slot.job; state = s }) came.0, ap (λ s. record { job = slot.job; state = s }) came.1)
      go false off same = made_same (file_goal need found) slots (λ k. is_at need (file_need_at slots k))
          (λ k. Has k (drop i ns)) (λ k. Has k (drop (i + 1) ns)) gifts new at off
          (less_left ns i at is) same so

  pub file_made : (need : ℕ) (found : Found) (left : List ℕ) (gifts : List (ℕ × Gift V)) → left ≡ []
      → FileMade need found left gifts → all_handed gifts slots ≡ hand_file need found slots
  file_made need found left gifts done so =
      all_handed-is (file_goal need found) slots gifts so.right
      (λ at slot stands. covers at slot stands (is_at need (file_need_of slot.state)) refl)
    where
      covers : (at : ℕ) (slot : Slot J Found V Refusal) → slice_get slots at ≡ Some slot
          → (c : Bool) → is_at need (file_need_of slot.state) ≡ c
          → Has at (places_of gifts) ⊎ (file_goal need found at slot ≡ slot)
      covers at slot stands true f =
          by (so.rest at (ap (λ o. is_at need (file_need_in o)) stands ∙ f))
        where
          by : Has at (places_of gifts) ⊎ Has at left → Has at (places_of gifts) ⊎ (file_goal need found at slot ≡ slot)
          by (inl has) = inl has
          by (inr has) = nothing (subst (λ ns. Has at ns) done has)
            where
              nothing : Has at [] → Has at (places_of gifts) ⊎ (file_goal need found at slot ≡ slot)
              nothing h = elim h [ ]
      covers at slot stands false f =
          inr (ap (λ s. record { job = slot.job; state = s }) (shelved_same need found slot.state f))

  -- the refusal of the job at a place, handed to each whose chain leads there
  abbrev pub RefusalMade : ℕ → Refusal → ℕ → List (ℕ × Gift V) → Type 0
  RefusalMade place r i gifts =
      AreMade (refusal_goal slots place r) slots (λ k. is_some (way_to slots place k)) (λ k. i ≤ k) gifts

  left_from : (i other : ℕ) → i ≤ other → (other ≡ i) ⊎ (i + 1 ≤ other)
  left_from i other less = go (other == i) refl
    where
      go : (b : Bool) → (other == i) ≡ b → (other ≡ i) ⊎ (i + 1 ≤ other)
      go true e = inl (grind (arith, nat_tests))
      go false e = inr (grind (arith, nat_tests))

  pub refusal_none : (place : ℕ) (r : Refusal) (gifts : List (ℕ × Gift V)) → gifts ≡ []
      → RefusalMade place r 0 gifts
  refusal_none place r gifts is = subst (λ all. RefusalMade place r 0 all) (sym is)
      (record { right = none; rest = λ k passes. inr (omega arith) })

  pub refusal_more : (place : ℕ) (r : Refusal) (i : ℕ) (gifts new : List (ℕ × Gift V))
      → AddsIf (is_some (way_to slots place i)) (λ state. RefusedWith r) i gifts new
      → RefusalMade place r i gifts → RefusalMade place r (i + 1) new
  refusal_more place r i gifts new adds so = go (is_some (way_to slots place i)) refl adds
    where
      go : (b : Bool) → is_some (way_to slots place i) ≡ b
          → MatchBool b (AddsGift (λ state. RefusedWith r) i gifts new) (new ≡ gifts)
          → RefusalMade place r (i + 1) new
      go true on adds =
          made_more (refusal_goal slots place r) slots (λ k. is_some (way_to slots place k))
          (λ k. i ≤ k) (λ k. i + 1 ≤ k) gifts new i (λ state. RefusedWith r)
          (λ slot stands. rw on (refl, refl)) (left_from i) adds so
      go false off same =
          made_same (refusal_goal slots place r) slots (λ k. is_some (way_to slots place k))
          (λ k. i ≤ k) (λ k. i + 1 ≤ k) gifts new i off (left_from i) same so

  pub refusal_made : (place : ℕ) (r : Refusal) (i : ℕ) (gifts : List (ℕ × Gift V))
      → length slots ≤ i → RefusalMade place r i gifts
      → all_handed gifts slots ≡ spread_refusal place r slots
  refusal_made place r i gifts past so =
      all_handed-is (refusal_goal slots place r) slots gifts so.right
      (λ at slot stands. covers at slot stands (is_some (way_to slots place at)) refl)
    where
      covers : (at : ℕ) (slot : Slot J Found V Refusal) → slice_get slots at ≡ Some slot
          → (c : Bool) → is_some (way_to slots place at) ≡ c
          → Has at (places_of gifts) ⊎ (refusal_goal slots place r at slot ≡ slot)
      covers at slot stands true f = by (so.rest at f)
        where
          by : Has at (places_of gifts) ⊎ (i ≤ at) → Has at (places_of gifts) ⊎ (refusal_goal slots place r at slot ≡ slot)
          by (inl has) = inl has
          by (inr late) = let within = slice_get_within slots at slot stands in
              absurd (omega (arith, within, late, past))
      covers at slot stands false f = inr (rw f refl)
