-- What an event makes of the fields of a table is what it makes of its account.
use Rattle.std.proofs.Common.{◌≡◌, ℕ, ◌+◌, ◌<◌, ◌≤◌, Bool, true, List, [], ◌∷◌, ◌++◌, length}
use Rattle.std.proofs.Common.{refl, ap, ◌∙◌, subst, arith, Option, Some, None, slice_get, ◌⊎◌, inl, inr}
use Rattle.std.specs.Prelude.{min, Result, Ok, Err, is_err}
use Rattle.std.proofs.lemmas.Option.{slice_get_within}
use Rattle.bz_base.specs.Counts.{last_count}
use Rattle.bz_base.specs.declared.refusals.Refusal.{Refusal}
use Rattle.bz_tree.specs.declared.tree.Found.{Found}
use Rattle.board_machine.specs.Boards.{Needed, Queued, Slot, map_places}
use Rattle.board_machine.specs.Events.{Event}
use Rattle.board_machine.specs.Moves.{with_slots}
use Rattle.board_machine.proofs.Slots.{length-each, pushed-stood}
use Rattle.board_slots.specs.Needs.{is_open_at}
use Rattle.board_core.specs.Accounts.{Account, IsEvent, Table, ended, noted}
use Rattle.board_jobs.specs.Taking.{with_new}

module _ {J V : Type 0} where
  abbrev pub seen : ℕ → List (Slot J Found V Refusal) → List (Needed Found) → Bool → List Event → ℕ
      → Account J V
  seen goals slots needs halted journal spent =
      record {
        board = record { goals = goals; slots = slots; needs = needs; halted = halted };
        journal = journal;
        spent = spent;
      }

  abbrev pub seen_table : Account J V → ℕ → Table J V
  seen_table account room = record { account = account; room = room }

  seen_same : (goals : ℕ) (needs : List (Needed Found)) (halted : Bool)
      {xs ys : List (Slot J Found V Refusal)} {es fs : List Event} {m n : ℕ} → xs ≡ ys → es ≡ fs
      → m ≡ n → seen goals xs needs halted es m ≡ seen goals ys needs halted fs n
  seen_same goals needs halted {xs} {ys} {es} {fs} {m} {n} slots events spent =
      ap (λ zs. seen goals zs needs halted es m) slots
      ∙ ap (λ gs. seen goals ys needs halted gs m) events
      ∙ ap (λ k. seen goals ys needs halted fs k) spent

  pub goals_kept : (f : ℕ → Slot J Found V Refusal → Slot J Found V Refusal) (goals : ℕ)
      (slots new : List (Slot J Found V Refusal)) → new ≡ map_places f 0 slots
      → goals ≤ length slots → goals ≤ length new
  goals_kept f goals slots new is less =
      let long : length new ≡ length slots = ap length is ∙ length-each f 0 slots in
      omega (arith, long, less)

  -- an event that ends a turn
  pub ended_of : (f : List (Slot J Found V Refusal) → ℕ → Slot J Found V Refusal → Slot J Found V Refusal)
      (goals : ℕ) (slots new : List (Slot J Found V Refusal)) (needs : List (Needed Found))
      (halted : Bool) (journal events : List Event) (spent total room made left len : ℕ)
      (old : Table J V) (event : Event) (steps : ℕ)
      → seen_table (seen goals slots needs halted journal spent) room ≡ old
      → new ≡ map_places (f slots) 0 slots
      → events ≡ journal ++ event ∷ []
      → total ≡ min (spent + steps) last_count
      → len ≡ length slots → len + 2 ≤ made → made ≤ left + 1
      → (seen goals new needs halted events total
      ≡ ended event steps
      (with_slots (map_places (f old.account.board.slots) 0 old.account.board.slots) old.account.board) old.account)
      × (length (map_places (f old.account.board.slots) 0 old.account.board.slots) + 1 ≤ left)
  ended_of f goals slots new needs halted journal events spent total room made left len old event
      steps view is written counted long enough kept =
      let Goal : Table J V → Type 0 = λ o. (seen goals new needs halted events total
      ≡ ended event steps
      (with_slots (map_places (f o.account.board.slots) 0 o.account.board.slots) o.account.board) o.account)
      × (length (map_places (f o.account.board.slots) 0 o.account.board.slots) + 1 ≤ left) in
      let same = length-each (f slots) 0 slots in
      subst Goal view
      (seen_same goals needs halted is written counted, omega (arith, same, long, enough, kept))

  -- an event that ends a turn and adds a need
  pub parked_of : (f : ℕ → Slot J Found V Refusal → Slot J Found V Refusal)
      (g : List (Needed Found) → List (Needed Found))
      (goals : ℕ) (slots new : List (Slot J Found V Refusal)) (needs after : List (Needed Found))
      (halted : Bool) (journal events : List Event) (spent total room made left len : ℕ)
      (old : Table J V) (event : Event) (steps : ℕ)
      → seen_table (seen goals slots needs halted journal spent) room ≡ old
      → new ≡ map_places f 0 slots
      → after ≡ g needs
      → events ≡ journal ++ event ∷ []
      → total ≡ min (spent + steps) last_count
      → len ≡ length slots → len + 2 ≤ made → made ≤ left + 1
      → (seen goals new after halted events total
      ≡ ended event steps
      (record {
        goals = old.account.board.goals;
        slots = map_places f 0 old.account.board.slots;
        needs = g old.account.board.needs;
        halted = old.account.board.halted;
      }) old.account)
      × (length (map_places f 0 old.account.board.slots) + 1 ≤ left)
  parked_of f g goals slots new needs after halted journal events spent total room made left len old
      event steps view is asked written counted long enough kept =
      let Goal : Table J V → Type 0 = λ o. (seen goals new after halted events total
      ≡ ended event steps
      (record {
        goals = o.account.board.goals;
        slots = map_places f 0 o.account.board.slots;
        needs = g o.account.board.needs;
        halted = o.account.board.halted;
      }) o.account)
      × (length (map_places f 0 o.account.board.slots) + 1 ≤ left) in
      let same = length-each f 0 slots in
      subst Goal view (
        seen_same goals after halted is written counted
            ∙ ap (λ ns. seen goals (map_places f 0 slots) ns halted (journal ++ event ∷ [])
            (min (spent + steps) last_count)) asked,
        omega (arith, same, long, enough, kept),
      )

  -- an event that ends a turn, whatever it makes of the jobs and the needs
  pub asked_of : (f : List (Slot J Found V Refusal) → List (Slot J Found V Refusal))
      (g : List (Slot J Found V Refusal) → List (Needed Found) → List (Needed Found))
      (goals : ℕ) (slots new : List (Slot J Found V Refusal)) (needs after : List (Needed Found))
      (halted : Bool) (journal events : List Event) (spent total room left : ℕ)
      (old : Table J V) (event : ℕ → Event) (steps : ℕ)
      → seen_table (seen goals slots needs halted journal spent) room ≡ old
      → new ≡ f slots
      → after ≡ g slots needs
      → events ≡ journal ++ event (length slots) ∷ []
      → total ≡ min (spent + steps) last_count
      → length (f slots) + 1 ≤ left
      → (seen goals new after halted events total
      ≡ ended (event (length old.account.board.slots)) steps
      (record {
        goals = old.account.board.goals;
        slots = f old.account.board.slots;
        needs = g old.account.board.slots old.account.board.needs;
        halted = old.account.board.halted;
      }) old.account)
      × (length (f old.account.board.slots) + 1 ≤ left)
  asked_of f g goals slots new needs after halted journal events spent total room left old event
      steps view is asked written counted enough =
      let Goal : Table J V → Type 0 = λ o. (seen goals new after halted events total
      ≡ ended (event (length o.account.board.slots)) steps
      (record {
        goals = o.account.board.goals;
        slots = f o.account.board.slots;
        needs = g o.account.board.slots o.account.board.needs;
        halted = o.account.board.halted;
      }) o.account)
      × (length (f o.account.board.slots) + 1 ≤ left) in
      subst Goal view (
        seen_same goals after halted is written counted
            ∙ ap (λ ns. seen goals (f slots) ns halted (journal ++ event (length slots) ∷ [])
            (min (spent + steps) last_count)) asked,
        enough,
      )

  pub long_enough : (f : ℕ → Slot J Found V Refusal → Slot J Found V Refusal)
      (slots : List (Slot J Found V Refusal)) (made left len : ℕ)
      → len ≡ length slots → len + 2 ≤ made → made ≤ left + 1
      → length (map_places f 0 slots) + 1 ≤ left
  long_enough f slots made left len long enough kept =
      let same = length-each f 0 slots in omega (arith, same, long, enough, kept)

  -- one job more
  pub pushed_length : (slots : List (Slot J Found V Refusal)) (job : J)
      → length (with_new job slots) ≡ length slots + 1
  pushed_length [] job = refl
  pushed_length (slot ∷ slots) job = let rest = pushed_length slots job in omega (arith, rest)

  pub pushed_goals : (f : ℕ → Slot J Found V Refusal → Slot J Found V Refusal) (goals : ℕ)
      (slots new pushed : List (Slot J Found V Refusal)) (job : J)
      → pushed ≡ with_new job slots → new ≡ map_places f 0 pushed
      → goals ≤ length slots → goals ≤ length new
  pushed_goals f goals slots new pushed job more is less =
      let long : length new ≡ length pushed = ap length is ∙ length-each f 0 pushed in
      let one : length pushed ≡ length slots + 1 = ap length more ∙ pushed_length slots job in
      omega (arith, long, one, less)

  pub pushed_enough : (f : ℕ → Slot J Found V Refusal → Slot J Found V Refusal)
      (slots : List (Slot J Found V Refusal)) (job : J) (made left len : ℕ)
      → len ≡ length slots → len + 3 ≤ made → made ≤ left + 1
      → length (map_places f 0 (with_new job slots)) + 1 ≤ left
  pushed_enough f slots job made left len long enough kept =
      let same = length-each f 0 (with_new job slots) in
      let one = pushed_length slots job in omega (arith, same, one, long, enough, kept)

  -- who stood before stands with one job more
  pub stood_before : (slots : List (Slot J Found V Refusal)) (job : J) (place : ℕ)
      (slot : Slot J Found V Refusal) → place < length slots
      → slice_get (with_new job slots) place ≡ Some slot → slice_get slots place ≡ Some slot
  stood_before slots job place slot less h =
      go (pushed-stood slots (record { job = job; state = Queued [] }) place slot h)
    where
      go : (slice_get slots place ≡ Some slot)
          ⊎ ((place ≡ length slots) × (slot ≡ record { job = job; state = Queued [] }))
          → slice_get slots place ≡ Some slot
      go (inl e) = e
      go (inr r) = let same = r.0 in absurd (omega (arith, same, less))

  -- an event that ends no turn
  pub noted_of : (f : ℕ → Slot J Found V Refusal → Slot J Found V Refusal)
      (g : List (Needed Found) → List (Needed Found))
      (goals : ℕ) (slots new : List (Slot J Found V Refusal)) (needs after : List (Needed Found))
      (halted : Bool) (journal events : List Event) (spent room made left len : ℕ)
      (old : Table J V) (event : Event)
      → seen_table (seen goals slots needs halted journal spent) room ≡ old
      → new ≡ map_places f 0 slots
      → after ≡ g needs
      → events ≡ journal ++ event ∷ []
      → len ≡ length slots → len + 2 ≤ made → made ≤ left + 1
      → (seen goals new after halted events spent
      ≡ noted event
      (record {
        goals = old.account.board.goals;
        slots = map_places f 0 old.account.board.slots;
        needs = g old.account.board.needs;
        halted = old.account.board.halted;
      }) old.account)
      × (length (map_places f 0 old.account.board.slots) + 1 ≤ left)
  noted_of f g goals slots new needs after halted journal events spent room made left len old event
      view is asked written long enough kept =
      let Goal : Table J V → Type 0 = λ o. (seen goals new after halted events spent
      ≡ noted event
      (record {
        goals = o.account.board.goals;
        slots = map_places f 0 o.account.board.slots;
        needs = g o.account.board.needs;
        halted = o.account.board.halted;
      }) o.account)
      × (length (map_places f 0 o.account.board.slots) + 1 ≤ left) in
      let same = length-each f 0 slots in
      subst Goal view (
        seen_same goals after halted is written refl
            ∙ ap (λ ns. seen goals (map_places f 0 slots) ns halted (journal ++ event ∷ []) spent) asked,
        omega (arith, same, long, enough, kept),
      )

  -- memory ran out, where room had been made
  pub unchanged_of : (goals : ℕ) (slots : List (Slot J Found V Refusal))
      (needs : List (Needed Found)) (halted : Bool) (journal events : List Event)
      (spent room left : ℕ) (old : Table J V)
      → seen_table (seen goals slots needs halted journal spent) room ≡ old
      → events ≡ journal → room ≤ left
      → (seen goals slots needs halted events spent ≡ old.account) × (old.room ≤ left)
  unchanged_of goals slots needs halted journal events spent room left old view same less =
      let Goal : Table J V → Type 0 = λ o. (seen goals slots needs halted events spent ≡ o.account)
      × (o.room ≤ left) in
      subst Goal view (seen_same goals needs halted refl same refl, less)

pub open_within : (path : List ℕ) (needs : List (Needed Found)) (need : ℕ)
    → is_open_at path (slice_get needs need) ≡ true → need < length needs
open_within path needs need is_open = go (slice_get needs need) refl is_open
  where
    go : (o : Option (Needed Found)) → slice_get needs need ≡ o → is_open_at path o ≡ true
        → need < length needs
    go None e h = absurd (cc)
    go (Some one) e h = slice_get_within needs need one e

-- a call that changed nothing but the room in the journal, for want of memory
pub nothing_happened : {J V T E : Type 0} (goals : ℕ) (slots now : List (Slot J Found V Refusal))
    (needs : List (Needed Found)) (halted : Bool) (journal events : List Event)
    (spent room made : ℕ) (old : Table J V) (after : Account J V) (result : Result T E)
    → seen_table (seen goals slots needs halted journal spent) room ≡ old → now ≡ slots
    → events ≡ journal → room ≤ made → is_err result ≡ true
    → IsEvent old (seen_table (seen goals now needs halted events spent) made) after result
nothing_happened goals slots now needs halted journal events spent room made old after (Ok x) view
    same kept more is = absurd (cc)
nothing_happened goals slots now needs halted journal events spent room made old after (Err e) view
    same kept more is =
    subst (λ o. (seen goals now needs halted events spent ≡ o.account) × (o.room ≤ made)) view (
      ap (λ xs. seen goals xs needs halted events spent) same
          ∙ ap (λ es. seen goals slots needs halted es spent) kept,
      more,
    )
