-- What is kept beside the jobs is kept by each change.
use Rattle.std.proofs.Common.{◌≡◌, ◌≢◌, ℕ, zero, suc, ◌+◌, ◌<◌, ◌≤◌, ◌==◌, Bool, true, false, List, []}
use Rattle.std.proofs.Common.{◌∷◌, ◌++◌, length, refl, ap, sym, ◌∙◌, subst, arith, if◌then◌else◌}
use Rattle.std.proofs.Common.{Option, None, Some, slice_get, slice_set, map, String, string_bytes}
use Rattle.std.proofs.Common.{nat_lt, cond, not, ◌||◌, ◌⊎◌, inl, inr, drop, get_or}
use Rattle.std.proofs.lemmas.Bool.Decides.{nat_tests}
use Rattle.std.proofs.lemmas.List.{drop_more, map-append}
use Rattle.std.proofs.lemmas.Option.{slice_get_within}
use Rattle.std.specs.List.{list_any, position, position_or_len}
use Rattle.std.specs.Str.{bytes_eq}
use Rattle.std.specs.String.{string_eq}
use Rattle.std.specs.declared.alloc.Global.{Global}
use Rattle.indexmap.specs.IndexSet.{insert_key}
use Rattle.bz_base.specs.declared.refusals.Refusal.{Refusal}
use Rattle.bz_tree.specs.declared.tree.Found.{Found}
use Rattle.board_laws.specs.Works.{Answer}
use Rattle.board_machine.specs.Boards.{Claimed, Queued, Slot, State, map_places}
use Rattle.board_machine.specs.Moves.{set_state}
use Rattle.board_machine.proofs.Slots.{pushed-stood, put-set}
use Rattle.board_slots.specs.Claims.{IsTaken}
use Rattle.board_slots.specs.declared.gifts.Gift.{Gift}
use Rattle.board_work.specs.declared.worker.Claim.{Claim}
use Rattle.board_work.specs.declared.worker.Claim.TheVariants.{Job, Nothing, Finished}
use Rattle.board_jobs.specs.Gifts.{all_handed, given_slot, places_of}
use Rattle.board_jobs.specs.Indexes.{AllFit, AreReady, Has, Index, IsIndexed, IsWider, here, further}
use Rattle.board_jobs.specs.Taking.{IsQueuedAt, IsTakenAt, with_new}
use Rattle.board_jobs.proofs.Fitting.{Suits, all_given, all_pushed, all_set, all_wider, claimed_suits}

-- an index that is wider than a wider one
pub wider_on : {one two three : Index} → IsWider one two → IsWider two three → IsWider one three
wider_on first second =
    let a = first.valued in
    let b = second.valued in
    record {
      queue = λ at has. second.queue at (first.queue at has);
      waiting = λ place at has. second.waiting place at (first.waiting place at has);
      reading = λ need at has. second.reading need at (first.reading need at has);
      valued = omega (arith, a, b);
    }

pub wider_same : (index : Index) → IsWider index index
wider_same index =
    record {
      queue = λ at has. has;
      waiting = λ place at has. has;
      reading = λ need at has. has;
      valued = omega arith;
    }

position_some : {X : Type 0} (test : X → Bool) (xs : List X) (n : ℕ)
    → Some n ≡ position test xs → n ≡ position_or_len test xs
position_some test xs n e = go (nat_lt (position_or_len test xs) (length xs)) e
  where
    go : (b : Bool) → Some n ≡ cond b (Some (position_or_len test xs)) None
        → n ≡ position_or_len test xs
    go true e = cc
    go false e = absurd (cc)

position_none : {X : Type 0} (test : X → Bool) (xs : List X)
    → None ≡ position test xs → length xs ≤ position_or_len test xs
position_none test xs e = go (nat_lt (position_or_len test xs) (length xs)) refl e
  where
    go : (b : Bool) → nat_lt (position_or_len test xs) (length xs) ≡ b
        → None ≡ cond b (Some (position_or_len test xs)) None
        → length xs ≤ position_or_len test xs
    go true f e = absurd (cc)
    go false f e = grind (arith, nat_tests)

position_most : {X : Type 0} (test : X → Bool) (xs : List X) → position_or_len test xs ≤ length xs
position_most test [] = omega arith
position_most test (x ∷ xs) = go (test x) (position_most test xs)
  where
    go : (b : Bool) → position_or_len test xs ≤ length xs
        → cond (not b) (1 + position_or_len test xs) 0 ≤ suc (length xs)
    go true h = omega arith
    go false h = omega (arith, h)

module _ {J V : Type 0} where
  -- each job's text, where no job changes
  texts_kept : (text : J → List ℕ) (f : ℕ → Slot J Found V Refusal → Slot J Found V Refusal)
      → ((at : ℕ) (slot : Slot J Found V Refusal) → (f at slot).job ≡ slot.job) → (from : ℕ)
      (slots : List (Slot J Found V Refusal))
      → map (λ slot. text slot.job) (map_places f from slots) ≡ map (λ slot. text slot.job) slots
  texts_kept text f kept from [] = refl
  texts_kept text f kept from (slot ∷ slots) =
      ap (λ job. text job ∷ map (λ slot. text slot.job) (map_places f (suc from) slots)) (kept from slot)
      ∙ ap (λ texts. text slot.job ∷ texts) (texts_kept text f kept (suc from) slots)

  same_job_set : (place : ℕ) (state : State Found V Refusal) (at : ℕ) (slot : Slot J Found V Refusal)
      → (if at == place then record { job = slot.job; state = state } else slot).job ≡ slot.job
  same_job_set place state at slot = go (at == place)
    where
      go : (b : Bool) → (if b then record { job = slot.job; state = state } else slot).job ≡ slot.job
      go true = refl
      go false = refl

  same_job_given : (place : ℕ) (gift : Gift V) (at : ℕ) (slot : Slot J Found V Refusal)
      → (if at == place then given_slot gift slot else slot).job ≡ slot.job
  same_job_given place gift at slot = go (at == place)
    where
      go : (b : Bool) → (if b then given_slot gift slot else slot).job ≡ slot.job
      go true = refl
      go false = refl

  texts_given : (text : J → List ℕ) (gifts : List (ℕ × Gift V)) (slots : List (Slot J Found V Refusal))
      → map (λ slot. text slot.job) (all_handed gifts slots) ≡ map (λ slot. text slot.job) slots
  texts_given text [] slots = refl
  texts_given text (gift ∷ gifts) slots =
      texts_kept text (λ at slot. if at == gift.0 then given_slot gift.1 slot else slot)
      (same_job_given gift.0 gift.1) 0 (all_handed gifts slots) ∙ texts_given text gifts slots

  pub indexed_wider : (text : J → List ℕ) (texts : List (List ℕ)) (old new : Index)
      (slots now : List (Slot J Found V Refusal)) → now ≡ slots → IsWider old new
      → IsIndexed text texts old slots → IsIndexed text texts new now
  indexed_wider text texts old new slots now same wider so =
      subst (λ all. IsIndexed text texts new all) (sym same)
      (record { named = so.named; fits = all_wider slots wider so.fits })

  pub indexed_set : (text : J → List ℕ) (texts : List (List ℕ)) (old new : Index)
      (slots now : List (Slot J Found V Refusal)) (place : ℕ) (state : State Found V Refusal)
      → now ≡ set_state place state slots → IsWider old new → Suits new place state
      → IsIndexed text texts old slots → IsIndexed text texts new now
  indexed_set text texts old new slots now place state is wider suits so =
      subst (λ all. IsIndexed text texts new all) (sym is) (record {
        named = so.named ∙ sym (texts_kept text
            (λ at slot. if at == place then record { job = slot.job; state = state } else slot)
            (same_job_set place state) 0 slots);
        fits = all_set new slots place state suits (all_wider slots wider so.fits);
      })

  pub indexed_given : (text : J → List ℕ) (texts : List (List ℕ)) (old new : Index)
      (slots now : List (Slot J Found V Refusal)) (gifts : List (ℕ × Gift V))
      → now ≡ all_handed gifts slots → IsWider old new → AreReady new (places_of gifts)
      → IsIndexed text texts old slots → IsIndexed text texts new now
  indexed_given text texts old new slots now gifts is wider ready so =
      subst (λ all. IsIndexed text texts new all) (sym is) (record {
        named = so.named ∙ sym (texts_given text gifts slots);
        fits = all_given new gifts slots ready (all_wider slots wider so.fits);
      })

  pub indexed_new : (text : J → List ℕ) (texts more : List (List ℕ)) (old new : Index)
      (slots now : List (Slot J Found V Refusal)) (job : J)
      → more ≡ texts ++ text job ∷ [] → now ≡ with_new job slots → IsWider old new
      → Has (length slots) new.queue → new.valued ≤ length slots
      → IsIndexed text texts old slots → IsIndexed text more new now
  indexed_new text texts more old new slots now job longer is wider has low so =
      subst (λ all. IsIndexed text more new all) (sym is) (record {
        named = longer ∙ ap (λ all. all ++ text job ∷ []) so.named
            ∙ sym (map-append (λ slot. text slot.job) slots (record { job = job; state = Queued [] } ∷ []));
        fits = all_pushed new slots job has low (all_wider slots wider so.fits);
      })

  -- a text that no job has
  texts_none : (text : J → List ℕ) (job : J) (one : String Global) (keys : List (String Global))
      (slots : List (Slot J Found V Refusal)) → string_bytes one ≡ text job
      → map string_bytes keys ≡ map (λ slot. text slot.job) slots
      → position_or_len (λ slot. bytes_eq (text job) (text slot.job)) slots ≡ length slots
      → list_any (string_eq one) keys ≡ false
  texts_none text job one [] slots is named none = refl
  texts_none text job one (key ∷ keys) [] is named none = absurd (cc)
  texts_none text job one (key ∷ keys) (slot ∷ slots) is named none =
      go (bytes_eq (text job) (text slot.job)) refl
      (λ rest. texts_none text job one keys slots is tails rest)
    where
      heads : string_bytes key ≡ text slot.job
      heads = cc

      tails : map string_bytes keys ≡ map (λ slot. text slot.job) slots
      tails = cc

      same : string_eq one key ≡ bytes_eq (text job) (text slot.job)
      same = ap (λ bytes. bytes_eq bytes (string_bytes key)) is
          ∙ ap (λ bytes. bytes_eq (text job) bytes) heads

      go : (b : Bool) → bytes_eq (text job) (text slot.job) ≡ b
          → (position_or_len (λ slot. bytes_eq (text job) (text slot.job)) slots ≡ length slots
          → list_any (string_eq one) keys ≡ false)
          → list_any (string_eq one) (key ∷ keys) ≡ false
      go true e onward =
          let found : position_or_len (λ slot. bytes_eq (text job) (text slot.job)) (slot ∷ slots) ≡ 0 = rw e refl in
          absurd (omega (arith, found, none))
      go false e onward =
          let later : position_or_len (λ slot. bytes_eq (text job) (text slot.job)) (slot ∷ slots)
          ≡ 1 + position_or_len (λ slot. bytes_eq (text job) (text slot.job)) slots = rw e refl in
          ap (λ b. b || list_any (string_eq one) keys) (same ∙ e)
          ∙ onward (omega (arith, later, none))

  pub texts_more : (text : J → List ℕ) (job : J) (one : String Global)
      (keys new : List (String Global)) (slots now : List (Slot J Found V Refusal))
      → now ≡ slots → new ≡ insert_key string_eq keys one → string_bytes one ≡ text job
      → map string_bytes keys ≡ map (λ slot. text slot.job) slots
      → position_or_len (λ slot. bytes_eq (text job) (text slot.job)) now ≡ length now
      → map string_bytes new ≡ map string_bytes keys ++ text job ∷ []
  texts_more text job one keys new slots now same inserted is named none =
      let off = texts_none text job one keys slots is named
      (subst (λ all. position_or_len (λ slot. bytes_eq (text job) (text slot.job)) all ≡ length all) same none) in
      ap (map string_bytes) (inserted ∙ ap (λ b. if b then keys else keys ++ one ∷ []) off)
      ∙ map-append string_bytes keys (one ∷ [])
      ∙ ap (λ bytes. map string_bytes keys ++ bytes ∷ []) is

  -- where a text stands among the texts its job stands among the jobs
  place_same : (text : J → List ℕ) (job : List ℕ) (keys : List (String Global))
      (slots : List (Slot J Found V Refusal))
      → map string_bytes keys ≡ map (λ slot. text slot.job) slots
      → position_or_len (λ key. bytes_eq job (string_bytes key)) keys
      ≡ position_or_len (λ slot. bytes_eq job (text slot.job)) slots
  place_same text job [] [] named = refl
  place_same text job [] (slot ∷ slots) named = absurd (cc)
  place_same text job (key ∷ keys) [] named = absurd (cc)
  place_same text job (key ∷ keys) (slot ∷ slots) named =
      let heads : string_bytes key ≡ text slot.job = cc in
      let tails : map string_bytes keys ≡ map (λ slot. text slot.job) slots = cc in
      let rest = place_same text job keys slots tails in
      ap (λ bytes. cond (not (bytes_eq job bytes)) (1 + position_or_len (λ key. bytes_eq job (string_bytes key)) keys) 0) heads
      ∙ ap (λ n. cond (not (bytes_eq job (text slot.job))) (1 + n) 0) rest

  pub place_found : (text : J → List ℕ) (job : List ℕ) (keys : List (String Global))
      (slots : List (Slot J Found V Refusal)) (n : ℕ)
      → map string_bytes keys ≡ map (λ slot. text slot.job) slots
      → Some n ≡ position (λ key. bytes_eq job (string_bytes key)) keys
      → n ≡ position_or_len (λ slot. bytes_eq job (text slot.job)) slots
  place_found text job keys slots n named e =
      position_some (λ key. bytes_eq job (string_bytes key)) keys n e
      ∙ place_same text job keys slots named

  length_named : (text : J → List ℕ) (keys : List (String Global)) (slots : List (Slot J Found V Refusal))
      → map string_bytes keys ≡ map (λ slot. text slot.job) slots → length keys ≡ length slots
  length_named text [] [] named = refl
  length_named text [] (slot ∷ slots) named = absurd (cc)
  length_named text (key ∷ keys) [] named = absurd (cc)
  length_named text (key ∷ keys) (slot ∷ slots) named =
      let tails : map string_bytes keys ≡ map (λ slot. text slot.job) slots = cc in
      ap suc (length_named text keys slots tails)

  pub place_missed : (text : J → List ℕ) (job : List ℕ) (keys : List (String Global))
      (slots : List (Slot J Found V Refusal))
      → map string_bytes keys ≡ map (λ slot. text slot.job) slots
      → None ≡ position (λ key. bytes_eq job (string_bytes key)) keys
      → length slots ≡ position_or_len (λ slot. bytes_eq job (text slot.job)) slots
  place_missed text job keys slots named e =
      let late = position_none (λ key. bytes_eq job (string_bytes key)) keys e in
      let same = place_same text job keys slots named in
      let long = length_named text keys slots named in
      let most = position_most (λ slot. bytes_eq job (text slot.job)) slots in
      omega (arith, late, same, long, most)

  pub not_found : (test : Slot J Found V Refusal → Bool) (slots : List (Slot J Found V Refusal)) (n : ℕ)
      → n ≡ position_or_len test slots → length slots ≤ n → position_or_len test slots ≡ length slots
  not_found test slots n is past = let most = position_most test slots in omega (arith, is, past, most)

  pub stood_before : (slots now : List (Slot J Found V Refusal)) (job : J) (place : ℕ)
      (slot : Slot J Found V Refusal) → place < length slots → now ≡ with_new job slots
      → slice_get now place ≡ Some slot → slice_get slots place ≡ Some slot
  stood_before slots now job place slot less is stands =
      go (pushed-stood slots (record { job = job; state = Queued [] }) place slot
      (ap (λ all. slice_get all place) (sym is) ∙ stands))
    where
      go : (slice_get slots place ≡ Some slot)
          ⊎ ((place ≡ length slots) × (slot ≡ record { job = job; state = Queued [] }))
          → slice_get slots place ≡ Some slot
      go (inl stood) = stood
      go (inr last) = let e = last.0 in absurd (omega (arith, less, e))

  -- a queued job that is handed out is claimed
  taken_set : {W P : Type 0} (job_of : P → J) (answers_of : P → List (Answer Found V))
      (worker place : ℕ) (slots : List (Slot J Found V Refusal)) (slot after : Slot J Found V Refusal)
      (claim : Claim W J P V) → slice_get slots place ≡ Some slot
      → IsTaken job_of answers_of worker place slot after claim
      → (count : ℕ) × (slice_set slots place after ≡ set_state place (Claimed worker count) slots)
  taken_set job_of answers_of worker place slots slot after (Job held part given) stands taken =
      let job : held.job ≡ slot.job = ap (λ s. s.job) (sym taken.stood) in (
        held.answers,
        ap (slice_set slots place) (taken.claimed
            ∙ ap (λ j. record { job = j; state = Claimed worker held.answers }) job)
            ∙ sym (put-set (λ one. record { job = one.job; state = Claimed worker held.answers }) slots place slot stands),
      )
  taken_set job_of answers_of worker place slots slot after Nothing stands taken = absurd taken
  taken_set job_of answers_of worker place slots slot after Finished stands taken = absurd taken

  pub indexed_taken : {W P : Type 0} (job_of : P → J) (answers_of : P → List (Answer Found V))
      (worker place : ℕ) (text : J → List ℕ) (texts : List (List ℕ)) (index : Index)
      (slots now : List (Slot J Found V Refusal)) (claim : Claim W J P V) → place < length slots
      → IsQueuedAt place slots → IsTakenAt job_of answers_of worker place slots now claim
      → IsIndexed text texts index slots → IsIndexed text texts index now
  indexed_taken job_of answers_of worker place text texts index slots now claim within queued taken so =
      go (slice_get slots place) refl
    where
      go : (o : Option (Slot J Found V Refusal)) → slice_get slots place ≡ o
          → IsIndexed text texts index now
      go None e = absurd (past slots place within e)
        where
          past : (xs : List (Slot J Found V Refusal)) (n : ℕ) → n < length xs → slice_get xs n ≡ None → ⊥
          past [] n less e = omega (arith, less)
          past (x ∷ xs) zero less e = absurd (cc)
          past (x ∷ xs) (suc n) less e = past xs n (omega (arith, less)) e
      go (Some slot) e =
          let after = taken slot e in
          let set = taken_set job_of answers_of worker place slots slot after.0 claim e after.1 in
          indexed_set text texts index index slots now place (Claimed worker set.0)
          (after.2 ∙ set.1) (wider_same index)
          (claimed_suits index place worker set.0 slot (queued slot e) (so.fits place slot e)) so

-- the places that are still to be made ready
pub record ReadyBut {V : Type 0} (old now : Index) (all left : List (ℕ × Gift V)) : Type 0 where
  pub wider : IsWider old now
  pub ready : (at : ℕ) → Has at (places_of all)
      → (Has at now.queue × (now.valued ≤ at)) ⊎ Has at (places_of left)

pub ready_none : {V : Type 0} (index : Index) (gifts : List (ℕ × Gift V))
    → ReadyBut index index gifts gifts
ready_none index gifts = record { wider = wider_same index; ready = λ at has. inr has }

pub ready_more : {V : Type 0} (old now new : Index) (all left less : List (ℕ × Gift V))
    (one : ℕ × Gift V) → left ≡ one ∷ less → IsWider now new → Has one.0 new.queue
    → new.valued ≤ one.0 → ReadyBut old now all left → ReadyBut old new all less
ready_more old now new all left less one is wider has low so =
    record {
      wider = wider_on so.wider wider;
      ready = λ at among. go at (so.ready at among);
    }
  where
    next : (at : ℕ) → Has at (one.0 ∷ places_of less)
        → (Has at new.queue × (new.valued ≤ at)) ⊎ Has at (places_of less)
    next at (here e) = inl (subst (λ k. Has k new.queue) e has, subst (λ k. new.valued ≤ k) e low)
    next at (further h) = inr h

    go : (at : ℕ) → (Has at now.queue × (now.valued ≤ at)) ⊎ Has at (places_of left)
        → (Has at new.queue × (new.valued ≤ at)) ⊎ Has at (places_of less)
    go at (inl done) = let a = wider.valued in let b = done.1 in
        inl (wider.queue at done.0, omega (arith, a, b))
    go at (inr among) = next at (subst (λ gifts. Has at (places_of gifts)) is among)

pub ready_all : {V : Type 0} (old now : Index) (all left : List (ℕ × Gift V)) → left ≡ []
    → ReadyBut old now all left → AreReady now (places_of all)
ready_all old now all left done so at among = go (so.ready at among)
  where
    nothing : Has at [] → Has at now.queue × (now.valued ≤ at)
    nothing h = elim h [ ]

    go : (Has at now.queue × (now.valued ≤ at)) ⊎ Has at (places_of left)
        → Has at now.queue × (now.valued ≤ at)
    go (inl so) = so
    go (inr h) = nothing (subst (λ gifts. Has at (places_of gifts)) done h)

pub drops_one : {X : Type 0} (xs : List X) (i : ℕ) (x : X) → i < length xs → x ≡ get_or xs i x
    → drop i xs ≡ x ∷ drop (i + 1) xs
drops_one xs i x less is = drop_more xs i x less ∙ ap (λ y. y ∷ drop (i + 1) xs) (sym is)
