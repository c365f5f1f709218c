-- What the index says stays so.
use Rattle.std.proofs.Common.{◌≡◌, ◌≢◌, ℕ, zero, suc, ◌+◌, ◌-◌, ◌<◌, ◌≤◌, ◌==◌, Bool, true, false, List, []}
use Rattle.std.proofs.Common.{◌∷◌, ◌++◌, length, refl, ap, sym, ◌∙◌, subst, arith, if◌then◌else◌}
use Rattle.std.proofs.Common.{◌⊎◌, inl, inr, Option, None, Some, slice_get, take, drop, map}
use Rattle.std.proofs.lemmas.Bool.Decides.{nat_tests}
use Rattle.std.specs.List.{position_or_len}
use Rattle.bz_base.specs.declared.refusals.Refusal.{Refusal}
use Rattle.bz_tree.specs.declared.tree.Found.{Found}
use Rattle.board_laws.specs.Works.{Answer}
use Rattle.board_machine.specs.Boards.{Slot, State, Queued, Claimed, OnFile, OnJob, Valued}
use Rattle.board_machine.specs.Boards.{RefusedWith, map_places, next_of}
use Rattle.board_machine.specs.Moves.{first_queued, goal_over, goals_over, is_queued, set_state}
use Rattle.board_machine.proofs.Slots.{map_places-stood, position_found, pushed-stood}
use Rattle.board_slots.specs.Views.{file_need_of, handed_state}
use Rattle.board_slots.specs.declared.gifts.Gift.{Gift}
use Rattle.board_slots.specs.declared.gifts.Gift
use Rattle.board_work.specs.Turns.{answer_of}
use Rattle.board_slots.specs.Views.{woken}
use Rattle.board_jobs.specs.Gifts.{all_handed, given_slot, handed_at, places_of}
use Rattle.board_jobs.specs.Indexes.{AllFit, AreReady, AreValued, Fits, Has, Index, IsWider, here, further}
use Rattle.board_jobs.specs.Indexes.{has_value, is_queued_at, is_valued, list_at, rest_of}

-- what the index is to say of a job that comes to a state
pub record Suits {V : Type 0} (index : Index) (place : ℕ) (state : State Found V Refusal) : Type 0 where
  pub queued : is_queued state ≡ true → Has place index.queue
  pub waits : (other : ℕ) → next_of state ≡ Some other → Has place (list_at index.waiting other)
  pub reads : (need : ℕ) → file_need_of state ≡ Some need → Has place (list_at index.reading need)
  pub valued : place < index.valued → is_valued state ≡ true

module _ {V : Type 0} where
  pub queued_suits : (index : Index) (place : ℕ) (answers : List (Answer Found V))
      → Has place index.queue → index.valued ≤ place
      → Suits {V = V} index place (Queued answers)
  queued_suits index place answers has low =
      record {
        queued = λ q. has;
        waits = λ other n. absurd (cc);
        reads = λ need n. absurd (cc);
        valued = λ less. absurd (omega (arith, low, less));
      }

  pub reading_suits : (index : Index) (place : ℕ) (answers : List (Answer Found V)) (need : ℕ)
      → Has place (list_at index.reading need) → index.valued ≤ place
      → Suits {V = V} index place (OnFile answers need)
  reading_suits index place answers need has low =
      record {
        queued = λ q. absurd (cc);
        waits = λ other n. absurd (cc);
        reads = λ other n. let same : need ≡ other = cc in
            subst (λ k. Has place (list_at index.reading k)) same has;
        valued = λ less. absurd (omega (arith, low, less));
      }

  pub waiting_suits : (index : Index) (place : ℕ) (answers : List (Answer Found V)) (need other : ℕ)
      → Has place (list_at index.waiting other) → index.valued ≤ place
      → Suits {V = V} index place (OnJob answers need other)
  waiting_suits index place answers need other has low =
      record {
        queued = λ q. absurd (cc);
        waits = λ one n. let same : other ≡ one = cc in
            subst (λ k. Has place (list_at index.waiting k)) same has;
        reads = λ one n. absurd (cc);
        valued = λ less. absurd (omega (arith, low, less));
      }

pub rest-less : (ns : List ℕ) (n : ℕ) → slice_get ns 0 ≡ Some n → length (rest_of ns) < length ns
rest-less [] n e = absurd (cc)
rest-less (m ∷ ns) n e = omega arith

module _ {J V : Type 0} where
  fits_wider : {old new : Index} → IsWider old new → (at : ℕ) (slot : Slot J Found V Refusal)
      → Fits old at slot → Fits new at slot
  fits_wider wider at slot fits =
      record {
        queued = λ q. wider.queue at (fits.queued q);
        waits = λ place n. wider.waiting place at (fits.waits place n);
        reads = λ need n. wider.reading need at (fits.reads need n);
        valued = λ less. let below = wider.valued in fits.valued (omega (arith, less, below));
      }

  pub all_wider : {old new : Index} (slots : List (Slot J Found V Refusal)) → IsWider old new
      → AllFit old slots → AllFit new slots
  all_wider slots wider all at slot stands = fits_wider wider at slot (all at slot stands)

  pub all_set : (index : Index) (slots : List (Slot J Found V Refusal)) (place : ℕ)
      (state : State Found V Refusal) → Suits index place state → AllFit index slots
      → AllFit index (set_state place state slots)
  all_set index slots place state suits all at slot stands =
      by (map_places-stood (λ at one. if at == place then record { job = one.job; state = state } else one) slots at slot stands)
    where
      by : (one : Slot J Found V Refusal) × (slice_get slots at ≡ Some one)
          × (slot ≡ (if at == place then record { job = one.job; state = state } else one))
          → Fits index at slot
      by stood = go (at == place) refl stood.2
        where
          go : (b : Bool) → (at == place) ≡ b
              → slot ≡ (if at == place then record { job = stood.0.job; state = state } else stood.0)
              → Fits index at slot
          go true on is =
              let same : at ≡ place = grind (arith, nat_tests) in
              let now : slot.state ≡ state =
              ap (λ s. s.state) is ∙ ap (λ b. (if b then record { job = stood.0.job; state = state } else stood.0).state) on in
              record {
                queued = λ q. subst (λ k. Has k index.queue) (sym same) (suits.queued (ap is_queued (sym now) ∙ q));
                waits = λ other n. subst (λ k. Has k (list_at index.waiting other)) (sym same) (suits.waits other (ap next_of (sym now) ∙ n));
                reads = λ need n. subst (λ k. Has k (list_at index.reading need)) (sym same) (suits.reads need (ap file_need_of (sym now) ∙ n));
                valued = λ less. ap is_valued now ∙ suits.valued (subst (λ k. k < index.valued) same less);
              }
          go false off is =
              let kept : stood.0 ≡ slot = ap (λ b. if b then record { job = stood.0.job; state = state } else stood.0) (sym off) ∙ sym is in
              subst (λ s. Fits index at s) kept (all at stood.0 stood.1)

  -- a queued job that is claimed
  pub claimed_suits : (index : Index) (place worker count : ℕ) (slot : Slot J Found V Refusal)
      → is_queued slot.state ≡ true → Fits index place slot
      → Suits {V = V} index place (Claimed worker count)
  claimed_suits index place worker count slot queued fits =
      record {
        queued = λ q. absurd (cc);
        waits = λ other n. absurd (cc);
        reads = λ need n. absurd (cc);
        valued = λ less. absurd (off slot.state queued (fits.valued less));
      }
    where
      off : (state : State Found V Refusal) → is_queued state ≡ true → is_valued state ≡ true → ⊥
      off (Queued answers) q v = absurd (cc)
      off (Claimed w n) q v = absurd (cc)
      off (OnFile answers need) q v = absurd (cc)
      off (OnJob answers need other) q v = absurd (cc)
      off (Valued v) q w = absurd (cc)
      off (RefusedWith r) q v = absurd (cc)

  -- a job that is handed a gift
  handed_fits : (index : Index) (at : ℕ) (one : Gift V) (slot : Slot J Found V Refusal)
      → Has at index.queue → index.valued ≤ at → Fits index at slot → Fits index at (given_slot one slot)
  handed_fits index at (Gift.TheVariants.Answer given) slot has low fits = by slot.state fits
    where
      by : (state : State Found V Refusal) → Fits index at (record { job = slot.job; state = state })
          → Fits index at (record { job = slot.job; state = woken (answer_of given) state })
      by (Queued answers) fits = fits
      by (Claimed w n) fits = fits
      by (OnFile answers need) fits = record {
        queued = λ q. has;
        waits = λ other n. absurd (cc);
        reads = λ other n. absurd (cc);
        valued = λ less. absurd (omega (arith, low, less));
      }
      by (OnJob answers need other) fits = record {
        queued = λ q. has;
        waits = λ other n. absurd (cc);
        reads = λ other n. absurd (cc);
        valued = λ less. absurd (omega (arith, low, less));
      }
      by (Valued v) fits = fits
      by (RefusedWith r) fits = fits
  handed_fits index at (Gift.TheVariants.Value value) slot has low fits =
      record {
        queued = λ q. absurd (cc);
        waits = λ other n. absurd (cc);
        reads = λ need n. absurd (cc);
        valued = λ less. refl;
      }
  handed_fits index at (Gift.TheVariants.Refusal refusal) slot has low fits =
      record {
        queued = λ q. absurd (cc);
        waits = λ other n. absurd (cc);
        reads = λ need n. absurd (cc);
        valued = λ less. absurd (omega (arith, low, less));
      }

  pub all_given : (index : Index) (gifts : List (ℕ × Gift V)) (slots : List (Slot J Found V Refusal))
      → AreReady index (places_of gifts) → AllFit index slots → AllFit index (all_handed gifts slots)
  all_given index [] slots ready all at slot stands = all at slot stands
  all_given index ((place, one) ∷ gifts) slots ready all at slot stands =
      by (map_places-stood (λ k other. if k == place then given_slot one other else other)
      (all_handed gifts slots) at slot stands)
      (all_given index gifts slots (λ k has. ready k (further has)) all)
    where
      by : (other : Slot J Found V Refusal) × (slice_get (all_handed gifts slots) at ≡ Some other)
          × (slot ≡ (if at == place then given_slot one other else other))
          → AllFit index (all_handed gifts slots) → Fits index at slot
      by stood before = go (at == place) refl stood.2
        where
          go : (b : Bool) → (at == place) ≡ b
              → slot ≡ (if at == place then given_slot one stood.0 else stood.0)
              → Fits index at slot
          go true on is =
              let same : place ≡ at = grind (arith, nat_tests) in
              let there = ready at (here same) in
              let now : given_slot one stood.0 ≡ slot =
              ap (λ b. if b then given_slot one stood.0 else stood.0) (sym on) ∙ sym is in
              subst (λ s. Fits index at s) now
              (handed_fits index at one stood.0 there.0 there.1 (before at stood.0 stood.1))
          go false off is =
              let kept : stood.0 ≡ slot =
              ap (λ b. if b then given_slot one stood.0 else stood.0) (sym off) ∙ sym is in
              subst (λ s. Fits index at s) kept (before at stood.0 stood.1)

  -- one job more
  pub all_pushed : (index : Index) (slots : List (Slot J Found V Refusal)) (job : J)
      → Has (length slots) index.queue → index.valued ≤ length slots → AllFit index slots
      → AllFit index (slots ++ record { job = job; state = Queued [] } ∷ [])
  all_pushed index slots job has low all at slot stands =
      by (pushed-stood slots (record { job = job; state = Queued [] }) at slot stands)
    where
      by : (slice_get slots at ≡ Some slot)
          ⊎ ((at ≡ length slots) × (slot ≡ record { job = job; state = Queued [] }))
          → Fits index at slot
      by (inl stood) = all at slot stood
      by (inr last) =
          let now : slot.state ≡ Queued [] = ap (λ s. s.state) last.1 in
          record {
            queued = λ q. subst (λ k. Has k index.queue) (sym last.0) has;
            waits = λ other n. let none : next_of slot.state ≡ None = ap next_of now in absurd (cc);
            reads = λ need n. let none : file_need_of slot.state ≡ None = ap file_need_of now in absurd (cc);
            valued = λ less. let e = last.0 in absurd (omega (arith, low, less, e));
          }

  search_from : (rest : List (Slot J Found V Refusal)) (k : ℕ) (slot : Slot J Found V Refusal)
      → ((at : ℕ) (one : Slot J Found V Refusal) → slice_get rest at ≡ Some one
      → is_queued one.state ≡ true → k ≤ at)
      → slice_get rest k ≡ Some slot → is_queued slot.state ≡ true
      → k ≡ position_or_len (λ one. is_queued one.state) rest
  search_from [] k slot below stands q = absurd (cc)
  search_from (first ∷ rest) zero slot below stands q =
      let same : first ≡ slot = cc in
      let is : is_queued first.state ≡ true = ap (λ s. is_queued s.state) same ∙ q in
      rw is refl
  search_from (first ∷ rest) (suc k) slot below stands q =
      go (is_queued first.state) refl (search_from rest k slot
      (λ at one there yes. let less = below (suc at) one there yes in omega (arith, less))
      stands q)
    where
      go : (b : Bool) → is_queued first.state ≡ b
          → k ≡ position_or_len (λ one. is_queued one.state) rest
          → suc k ≡ position_or_len (λ one. is_queued one.state) (first ∷ rest)
      go true is later = let late = below 0 first refl is in absurd (omega (arith, late))
      go false is later =
          rw is (omega (arith, later))

  -- the least place of the queue, which is a queued job's or none's
  pub first_is : (index : Index) (slots : List (Slot J Found V Refusal)) (place : ℕ)
      → AllFit index slots → ((at : ℕ) → Has at index.queue → place ≤ at)
      → is_queued_at (slice_get slots place) ≡ true → place ≡ first_queued slots
  first_is index slots place all least queued = by (slice_get slots place) refl
    where
      low : (at : ℕ) (slot : Slot J Found V Refusal) → slice_get slots at ≡ Some slot
          → is_queued slot.state ≡ true → place ≤ at
      low at slot stands q = least at ((all at slot stands).queued q)

      by : (o : Option (Slot J Found V Refusal)) → slice_get slots place ≡ o
          → place ≡ first_queued slots
      by None e = let none : is_queued_at (slice_get slots place) ≡ false = ap is_queued_at e in absurd (cc)
      by (Some slot) e = search_from slots place slot low e (ap is_queued_at (sym e) ∙ queued)

  pub none_queued : (index : Index) (slots : List (Slot J Found V Refusal)) → AllFit index slots
      → slice_get index.queue 0 ≡ None → length slots ≡ first_queued slots
  none_queued index slots all empty = go (position_found (λ slot. is_queued slot.state) slots)
    where
      nothing : (ns : List ℕ) (at : ℕ) → slice_get ns 0 ≡ None → Has at ns → ⊥
      nothing [] at e has = elim has [ ]
      nothing (n ∷ ns) at e has = absurd (cc)

      go : ((x : Slot J Found V Refusal) × (slice_get slots (first_queued slots) ≡ Some x)
          × (is_queued x.state ≡ true))
          ⊎ ((first_queued slots ≡ length slots)
          × ((at : ℕ) (y : Slot J Found V Refusal) → slice_get slots at ≡ Some y
          → is_queued y.state ≡ false))
          → length slots ≡ first_queued slots
      go (inl found) = absurd (nothing index.queue (first_queued slots) empty
          ((all (first_queued slots) found.0 found.1).queued found.2))
      go (inr none) = sym none.0

  -- the index without a place at which no job is queued
  pub first_dropped : (index : Index) (slots : List (Slot J Found V Refusal)) (place : ℕ)
      → slice_get index.queue 0 ≡ Some place → is_queued_at (slice_get slots place) ≡ false
      → AllFit index slots → AllFit (record index { queue = rest_of index.queue }) slots
  first_dropped index slots place first off all at slot stands =
      let fits = all at slot stands in
      record {
        queued = λ q. less index.queue first (fits.queued q) q;
        waits = fits.waits;
        reads = fits.reads;
        valued = fits.valued;
      }
    where
      less : (ns : List ℕ) → slice_get ns 0 ≡ Some place → Has at ns → is_queued slot.state ≡ true
          → Has at (rest_of ns)
      less [] e has q = elim has [ ]
      less (n ∷ ns) e (here same) q =
          let is : at ≡ place = cc in
          let stood : slice_get slots place ≡ Some slot = subst (λ k. slice_get slots k ≡ Some slot) is stands in
          let on : is_queued_at (slice_get slots place) ≡ true = ap is_queued_at stood ∙ q in
          absurd (cc)
      less (n ∷ ns) e (further has) q = has

  pub all_valued : (index : Index) (slots : List (Slot J Found V Refusal)) (many : ℕ)
      → AreValued many slots → AllFit index slots → AllFit (record index { valued = many }) slots
  all_valued index slots many valued all at slot stands =
      let fits = all at slot stands in
      record {
        queued = fits.queued;
        waits = fits.waits;
        reads = fits.reads;
        valued = valued at slot stands;
      }

  pub one_more_valued : (many : ℕ) (slots : List (Slot J Found V Refusal)) → AreValued many slots
      → has_value (slice_get slots many) ≡ true → AreValued (many + 1) slots
  one_more_valued many slots valued last at slot stands less = go (at == many) refl
    where
      go : (b : Bool) → (at == many) ≡ b → is_valued slot.state ≡ true
      go true e =
          let same : at ≡ many = grind (arith, nat_tests) in
          let there : slice_get slots many ≡ Some slot = subst (λ k. slice_get slots k ≡ Some slot) same stands in
          ap has_value (sym there) ∙ last
      go false e = valued at slot stands (grind (arith, nat_tests))

  pub within_valued : (many : ℕ) (slots : List (Slot J Found V Refusal))
      → has_value (slice_get slots many) ≡ true → many < length slots
  within_valued many [] h = absurd (cc)
  within_valued zero (slot ∷ slots) h = omega arith
  within_valued (suc many) (slot ∷ slots) h = let less = within_valued many slots h in omega (arith, less)

  -- goals of which the first have values are over where the others are
  pub over_behind : (many goals : ℕ) (slots : List (Slot J Found V Refusal)) → AreValued many slots
      → many ≤ goals
      → goals_over (take goals slots) ≡ goals_over (take (goals - many) (drop many slots))
  over_behind zero goals slots valued less = ap (λ n. goals_over (take n slots)) (omega arith)
  over_behind (suc many) zero slots valued less = absurd (omega (arith, less))
  over_behind (suc many) (suc goals) [] valued less = nil (suc goals - suc many)
    where
      nil : (n : ℕ) → true ≡ goals_over {J = J} {A = Found} {V = V} {R = Refusal} (take n [])
      nil zero = refl
      nil (suc n) = refl
  over_behind (suc many) (suc goals) (slot ∷ slots) valued less =
      first slot.state (valued 0 slot refl (omega arith)) (goals_over (take goals slots))
      ∙ over_behind many goals slots
      (λ at one stands below. valued (suc at) one stands (omega (arith, below))) (omega (arith, less))
      ∙ ap (λ n. goals_over (take n (drop many slots))) (omega arith)
    where
      first : (state : State Found V Refusal) → is_valued state ≡ true → (rest : Bool)
          → goal_over state rest ≡ rest
      first (Valued v) h rest = refl
      first (RefusedWith r) h rest = absurd (cc)
      first (Queued answers) h rest = absurd (cc)
      first (Claimed w n) h rest = absurd (cc)
      first (OnFile answers need) h rest = absurd (cc)
      first (OnJob answers need other) h rest = absurd (cc)

  pub all_over : (many goals : ℕ) (slots : List (Slot J Found V Refusal)) → AreValued many slots
      → goals ≤ many → goals_over (take goals slots) ≡ true
  all_over many zero slots valued less = refl
  all_over many (suc goals) [] valued less = refl
  all_over zero (suc goals) (slot ∷ slots) valued less = absurd (omega (arith, less))
  all_over (suc many) (suc goals) (slot ∷ slots) valued less =
      first slot.state (valued 0 slot refl (omega arith)) (goals_over (take goals slots))
      ∙ all_over many goals slots
      (λ at one stands below. valued (suc at) one stands (omega (arith, below))) (omega (arith, less))
    where
      first : (state : State Found V Refusal) → is_valued state ≡ true → (rest : Bool)
          → goal_over state rest ≡ rest
      first (Valued v) h rest = refl
      first (RefusedWith r) h rest = absurd (cc)
      first (Queued answers) h rest = absurd (cc)
      first (Claimed w n) h rest = absurd (cc)
      first (OnFile answers need) h rest = absurd (cc)
      first (OnJob answers need other) h rest = absurd (cc)
