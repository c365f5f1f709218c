-- What jobs are handed, each with the place of its job.
use Rattle.std.specs.Prelude.{ℕ, ◌≡◌, ◌==◌, Bool, false, MatchBool, List, [], ◌∷◌, ◌++◌}
use Rattle.std.specs.Prelude.{if◌then◌else◌, Option, None, Some, slice_get}
use Rattle.bz_base.specs.declared.refusals.Refusal.{Refusal}
use Rattle.bz_tree.specs.declared.tree.Found.{Found}
use Rattle.board_machine.specs.Boards.{Slot, State, map_places, next_at}
use Rattle.board_slots.specs.Views.{file_need_of, handed_state}
use Rattle.board_slots.specs.declared.gifts.Gift.{Gift}

-- what a job comes to by a gift
abbrev pub given_slot : {J V : Type 0} → Gift V → Slot J Found V Refusal → Slot J Found V Refusal
given_slot gift slot = record { job = slot.job; state = handed_state gift slot.state }

-- the job at a place is handed a gift
abbrev pub handed_at : {J V : Type 0} → ℕ → Gift V → List (Slot J Found V Refusal)
    → List (Slot J Found V Refusal)
handed_at place gift slots =
    map_places (λ at slot. if at == place then given_slot gift slot else slot) 0 slots

-- each gift is handed to the job at its place, the last gift first
abbrev pub all_handed : {J V : Type 0} → List (ℕ × Gift V) → List (Slot J Found V Refusal)
    → List (Slot J Found V Refusal)
all_handed [] slots = slots
all_handed (gift ∷ gifts) slots = handed_at gift.0 gift.1 (all_handed gifts slots)

-- the places of the gifts
abbrev pub places_of : {V : Type 0} → List (ℕ × Gift V) → List ℕ
places_of [] = []
places_of (gift ∷ gifts) = gift.0 ∷ places_of gifts

-- one gift more, by which the job at a place comes to that
abbrev pub AddsGift : {V : Type 0} → (State Found V Refusal → State Found V Refusal) → ℕ
    → List (ℕ × Gift V) → List (ℕ × Gift V) → Type 0
AddsGift {V = V} f at old new =
    (gift : Gift V) × ((state : State Found V Refusal) → handed_state gift state ≡ f state)
    × (new ≡ old ++ (at, gift) ∷ [])

-- the same where the test says so, and else none
abbrev pub AddsIf : {V : Type 0} → Bool → (State Found V Refusal → State Found V Refusal) → ℕ
    → List (ℕ × Gift V) → List (ℕ × Gift V) → Type 0
AddsIf test f at old new = MatchBool test (AddsGift f at old new) (new ≡ old)

-- the number is that one
abbrev pub is_at : ℕ → Option ℕ → Bool
is_at place None = false
is_at place (Some other) = other == place

-- a job waits for the one at another place
abbrev pub waits_for : {J V : Type 0} → List (Slot J Found V Refusal) → ℕ → ℕ → Bool
waits_for slots place at = if at == place then false else is_at place (next_at slots at)

-- the file's need for which the job at a place waits
abbrev pub file_need_in : {J V : Type 0} → Option (Slot J Found V Refusal) → Option ℕ
file_need_in None = None
file_need_in (Some slot) = file_need_of slot.state

abbrev pub file_need_at : {J V : Type 0} → List (Slot J Found V Refusal) → ℕ → Option ℕ
file_need_at slots at = file_need_in (slice_get slots at)
