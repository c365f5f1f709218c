-- What each event makes of a board.
use Rattle.std.specs.Prelude.{ℕ, ◌==◌, Bool, true, false, ◌||◌, if◌then◌else◌, List, [], ◌∷◌, ◌++◌}
use Rattle.std.specs.Prelude.{length, take, Option, None, Some, is_some, slice_get, nat_lt}
use Rattle.std.specs.List.{position_or_len}
use Rattle.std.specs.Str.{bytes_eq}
use Rattle.board_laws.specs.Works.{Answer, Found, Value, Rules}
use Rattle.board_laws.specs.Recursive.{same_job, cycle_of}
use Rattle.board_machine.specs.Boards.{State, Queued, Claimed, OnFile, OnJob, Valued, RefusedWith}
use Rattle.board_machine.specs.Boards.{Slot, Needed, File, Job, Board, map_places, way_to, jobs_at}

-- all goals are valued, or the first that isn't is refused
abbrev pub goal_over : {A V R : Type 0} → State A V R → Bool → Bool
goal_over (Valued v) rest = rest
goal_over (RefusedWith r) rest = true
goal_over (Queued answers) rest = false
goal_over (Claimed worker answers) rest = false
goal_over (OnFile answers need) rest = false
goal_over (OnJob answers need place) rest = false

abbrev pub goals_over : {J A V R : Type 0} → List (Slot J A V R) → Bool
goals_over [] = true
goals_over (slot ∷ slots) = goal_over slot.state (goals_over slots)

abbrev pub is_over : {J A V R : Type 0} → Board J A V R → Bool
is_over board = board.halted || goals_over (take board.goals board.slots)

abbrev pub is_queued : {A V R : Type 0} → State A V R → Bool
is_queued (Queued answers) = true
is_queued (Claimed worker answers) = false
is_queued (OnFile answers need) = false
is_queued (OnJob answers need place) = false
is_queued (Valued v) = false
is_queued (RefusedWith r) = false

-- the slot at that place in another state
abbrev pub set_state : {J A V R : Type 0} → ℕ → State A V R → List (Slot J A V R)
    → List (Slot J A V R)
set_state place state slots =
    map_places (λ at slot. if at == place then record { job = slot.job; state = state } else slot) 0
    slots

-- the jobs that wait for that place go on
abbrev pub woken_state : {A V R : Type 0} → ℕ → V → State A V R → State A V R
woken_state place v (OnJob answers need other) =
    if other == place then Queued (Value v ∷ answers) else OnJob answers need other
woken_state place v (Queued answers) = Queued answers
woken_state place v (Claimed worker answers) = Claimed worker answers
woken_state place v (OnFile answers need) = OnFile answers need
woken_state place v (Valued w) = Valued w
woken_state place v (RefusedWith r) = RefusedWith r

abbrev pub shelved_state : {A V R : Type 0} → ℕ → A → State A V R → State A V R
shelved_state need found (OnFile answers other) =
    if other == need then Queued (Found found ∷ answers) else OnFile answers other
shelved_state need found (Queued answers) = Queued answers
shelved_state need found (Claimed worker answers) = Claimed worker answers
shelved_state need found (OnJob answers other place) = OnJob answers other place
shelved_state need found (Valued w) = Valued w
shelved_state need found (RefusedWith r) = RefusedWith r

-- the job at that place is refused, and with it each whose chain of parked jobs leads there
abbrev pub spread_refusal : {J A V R : Type 0} → ℕ → R → List (Slot J A V R) → List (Slot J A V R)
spread_refusal place r slots =
    map_places (λ at slot. if is_some (way_to slots place at) then record { job = slot.job; state = RefusedWith r } else slot) 0 slots

abbrev pub with_value : {J A V R : Type 0} → ℕ → V → List (Slot J A V R) → List (Slot J A V R)
with_value place v slots =
    map_places (λ at slot. record { job = slot.job; state = if at == place then Valued v else woken_state place v slot.state }) 0 slots

abbrev pub hand_file : {J A V R : Type 0} → ℕ → A → List (Slot J A V R) → List (Slot J A V R)
hand_file need found slots =
    map_places (λ at slot. record { job = slot.job; state = shelved_state need found slot.state }) 0
    slots

-- where a job stands, or would be added
abbrev pub place_of : {J F A V R : Type 0} → Rules J F A V R → J → List (Slot J A V R) → ℕ
place_of rules job slots = position_or_len (λ slot. same_job rules job slot.job) slots

abbrev pub with_job : {J F A V R : Type 0} → Rules J F A V R → J → List (Slot J A V R)
    → List (Slot J A V R)
with_job rules job slots =
    if nat_lt (place_of rules job slots) (length slots) then slots else slots ++
    record { job = job; state = Queued [] } ∷ []

-- where a need stands, or would be added
abbrev pub is_file : {A : Type 0} → List ℕ → Needed A → Bool
is_file path (File other found) = bytes_eq path other
is_file path (Job place) = false

abbrev pub is_job : {A : Type 0} → ℕ → Needed A → Bool
is_job place (Job other) = place == other
is_job place (File path found) = false

abbrev pub with_need : {A : Type 0} → (Needed A → Bool) → Needed A → List (Needed A)
    → List (Needed A)
with_need test need needs =
    if nat_lt (position_or_len test needs) (length needs) then needs else needs ++ need ∷ []

-- a claimed job that needs a file
abbrev pub file_put : {J A V R : Type 0} → ℕ → List (Answer A V) → ℕ → Option (Needed A)
    → List (Slot J A V R) → List (Slot J A V R)
file_put place answers need (Some (File path (Some found))) slots =
    set_state place (Queued (Found found ∷ answers)) slots
file_put place answers need (Some (File path None)) slots =
    set_state place (OnFile answers need) slots
file_put place answers need (Some (Job other)) slots = set_state place (OnFile answers need) slots
file_put place answers need None slots = set_state place (OnFile answers need) slots

abbrev pub park_file : {J A V R : Type 0} → ℕ → List (Answer A V) → List ℕ → Board J A V R
    → Board J A V R
park_file place answers path board =
    let need = position_or_len (is_file path) board.needs in
    record {
      goals = board.goals;
      slots = file_put place answers need (slice_get board.needs need) board.slots;
      needs = with_need (is_file path) (File path None) board.needs;
      halted = board.halted;
    }

-- a claimed job that needs the job at a place, of which the way back to it is known
abbrev pub job_put : {J F A V R : Type 0} → Rules J F A V R → ℕ → J → List (Answer A V) → ℕ → ℕ
    → Option (List ℕ) → State A V R → List (Slot J A V R) → List (Slot J A V R)
job_put rules place job answers need other way (Valued v) slots =
    set_state place (Queued (Value v ∷ answers)) slots
job_put rules place job answers need other way (RefusedWith r) slots = spread_refusal place r slots
job_put rules place job answers need other (Some places) state slots =
    spread_refusal place (cycle_of rules (job ∷ jobs_at slots places)) slots
job_put rules place job answers need other None state slots =
    set_state place (OnJob answers need other) slots

abbrev pub state_in : {J A V R : Type 0} → Option (Slot J A V R) → State A V R
state_in (Some slot) = slot.state
state_in None = Queued []

abbrev pub park_job : {J F A V R : Type 0} → Rules J F A V R → ℕ → J → List (Answer A V) → J
    → Board J A V R → Board J A V R
park_job rules place job answers asked board =
    let slots = with_job rules asked board.slots in
    let other = place_of rules asked board.slots in
    let need = position_or_len (is_job other) board.needs in
    record {
      goals = board.goals;
      slots = job_put rules place job answers need other (way_to slots place other) (state_in (slice_get slots other)) slots;
      needs = with_need (is_job other) (Job other) board.needs;
      halted = board.halted;
    }

abbrev pub filled : {A : Type 0} → A → Needed A → Needed A
filled found (File path old) = File path (Some found)
filled found (Job place) = Job place

abbrev pub shelve_need : {A : Type 0} → ℕ → A → List (Needed A) → List (Needed A)
shelve_need need found needs =
    map_places (λ at one. if at == need then filled found one else one) 0 needs

-- the queued job with the least number is claimed
abbrev pub count_in : {A V R : Type 0} → State A V R → ℕ
count_in (Queued answers) = length answers
count_in (Claimed worker answers) = answers
count_in (OnFile answers need) = 0
count_in (OnJob answers need place) = 0
count_in (Valued v) = 0
count_in (RefusedWith r) = 0

abbrev pub first_queued : {J A V R : Type 0} → List (Slot J A V R) → ℕ
first_queued slots = position_or_len (λ slot. is_queued slot.state) slots

abbrev pub with_slots : {J A V R : Type 0} → List (Slot J A V R) → Board J A V R → Board J A V R
with_slots slots board =
    record { goals = board.goals; slots = slots; needs = board.needs; halted = board.halted }

abbrev pub claim : {J A V R : Type 0} → ℕ → Board J A V R → Board J A V R
claim worker board =
    let place = first_queued board.slots in
    with_slots (set_state place (Claimed worker (count_in (state_in (slice_get board.slots place)))) board.slots) board

abbrev pub finish_value : {J A V R : Type 0} → ℕ → V → Board J A V R → Board J A V R
finish_value place v board = with_slots (with_value place v board.slots) board

abbrev pub finish_refused : {J A V R : Type 0} → ℕ → R → Board J A V R → Board J A V R
finish_refused place r board = with_slots (spread_refusal place r board.slots) board

abbrev pub shelve : {J A V R : Type 0} → ℕ → A → Board J A V R → Board J A V R
shelve need found board =
    record {
      goals = board.goals;
      slots = hand_file need found board.slots;
      needs =
          shelve_need need found board.needs;
      halted = board.halted;
    }

abbrev pub halt : {J A V R : Type 0} → Board J A V R → Board J A V R
halt board = record { goals = board.goals; slots = board.slots; needs = board.needs; halted = true }
