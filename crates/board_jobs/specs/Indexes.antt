-- What is kept beside a board's jobs, so that they are found at once.
use Rattle.std.specs.Prelude.{ℕ, ◌≡◌, ◌<◌, ◌≤◌, Bool, true, false, List, [], ◌∷◌, map}
use Rattle.std.specs.Prelude.{Option, None, Some, slice_get}
use Rattle.bz_base.specs.declared.refusals.Refusal.{Refusal}
use Rattle.bz_tree.specs.declared.tree.Found.{Found}
use Rattle.board_machine.specs.Boards.{Slot, State, Queued, Claimed, OnFile, OnJob, Valued, next_of}
use Rattle.board_machine.specs.Boards.{RefusedWith}
use Rattle.board_machine.specs.Moves.{is_queued}
use Rattle.board_slots.specs.Views.{file_need_of}

-- the number stands in the list
pub data Has (n : ℕ) : List ℕ → Type 0 where
  here : {m : ℕ} {ns : List ℕ} → m ≡ n → Has n (m ∷ ns)
  further : {m : ℕ} {ns : List ℕ} → Has n ns → Has n (m ∷ ns)

-- the list that stands there, or none
abbrev pub some_list : Option (List ℕ) → List ℕ
some_list None = []
some_list (Some ns) = ns

abbrev pub list_at : List (List ℕ) → ℕ → List ℕ
list_at lists at = some_list (slice_get lists at)

-- the list without its first item
abbrev pub rest_of : List ℕ → List ℕ
rest_of [] = []
rest_of (n ∷ ns) = ns

-- places that may be queued; for each job, and for each need, places of jobs that may wait for it;
-- and a number of first jobs that all have values
pub record Index : Type 0 where
  pub queue : List ℕ
  pub waiting : List (List ℕ)
  pub reading : List (List ℕ)
  pub valued : ℕ

abbrev pub is_valued : {A V R : Type 0} → State A V R → Bool
is_valued (Valued v) = true
is_valued (RefusedWith r) = false
is_valued (Queued answers) = false
is_valued (Claimed worker answers) = false
is_valued (OnFile answers need) = false
is_valued (OnJob answers need place) = false

-- the index has what there is to say of the job at a place
pub record Fits {J V : Type 0} (index : Index) (at : ℕ) (slot : Slot J Found V Refusal) : Type 0
  where
    pub queued : is_queued slot.state ≡ true → Has at index.queue
    pub waits : (place : ℕ) → next_of slot.state ≡ Some place → Has at (list_at index.waiting place)
    pub reads : (need : ℕ) → file_need_of slot.state ≡ Some need
        → Has at (list_at index.reading need)
    pub valued : at < index.valued → is_valued slot.state ≡ true

-- the new lists have what the old ones have
abbrev pub HasAll : List (List ℕ) → List (List ℕ) → Type 0
HasAll old new = (place at : ℕ) → Has at (list_at old place) → Has at (list_at new place)

-- the new index has what the old one has
pub record IsWider (old new : Index) : Type 0 where
  pub queue : (at : ℕ) → Has at old.queue → Has at new.queue
  pub waiting : HasAll old.waiting new.waiting
  pub reading : HasAll old.reading new.reading
  pub valued : new.valued ≤ old.valued

-- the index has what there is to say of each job
abbrev pub AllFit : {J V : Type 0} → Index → List (Slot J Found V Refusal) → Type 0
AllFit {J = J} {V = V} index slots =
    (at : ℕ) (slot : Slot J Found V Refusal) → slice_get slots at ≡ Some slot → Fits index at slot

-- each place of the gifts is one at which a job may be queued
abbrev pub AreReady : Index → List ℕ → Type 0
AreReady index places = (at : ℕ) → Has at places → Has at index.queue × (index.valued ≤ at)

-- each job's text stands in the list of texts, and the index has what there is to say of it
pub record IsIndexed {J V : Type 0} (text : J → List ℕ) (texts : List (List ℕ)) (index : Index)
    (slots : List (Slot J Found V Refusal)) : Type 0 where
  pub named : texts ≡ map (λ slot. text slot.job) slots
  pub fits : AllFit index slots

-- so many first jobs have values
abbrev pub AreValued : {J V : Type 0} → ℕ → List (Slot J Found V Refusal) → Type 0
AreValued {J = J} {V = V} many slots =
    (at : ℕ) (slot : Slot J Found V Refusal) → slice_get slots at ≡ Some slot → at < many
    → is_valued slot.state ≡ true

abbrev pub has_value : {J V : Type 0} → Option (Slot J Found V Refusal) → Bool
has_value None = false
has_value (Some slot) = is_valued slot.state

abbrev pub is_queued_at : {J V : Type 0} → Option (Slot J Found V Refusal) → Bool
is_queued_at None = false
is_queued_at (Some slot) = is_queued slot.state
