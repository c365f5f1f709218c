-- How contracts see a job on a board.
use Rattle.std.specs.Prelude.{ℕ, ◌≡◌, ◌<◌, List, [], ◌∷◌, Option, None, Some, option_map, length}
use Rattle.std.specs.Prelude.{Result, Ok, Err, slice_get, slice_set}
use Rattle.std.specs.Borrow.{Bor}
use Rattle.std.specs.declared.sync.Arc.{Arc}
use Rattle.std.specs.Arc.{arc_value}
use Rattle.bz_base.specs.declared.refusals.Refusal.{Refusal}
use Rattle.bz_base.specs.Counts.{last_count}
use Rattle.bz_tree.specs.declared.tree.Found.{Found}
use Rattle.bz_tree.specs.declared.tree.Found
use Rattle.board_laws.specs.Works.{Answer, Rules}
use Rattle.board_machine.specs.Boards
use Rattle.board_work.specs.declared.turns.Given.{Given}
use Rattle.board_work.specs.Turns.{Meaning, after, answer_of, rules_of}
use Rattle.board_slots.specs.declared.slot.State.{State}
use Rattle.board_slots.specs.declared.slot.State.TheVariants.{Queued, Claimed, OnFile, OnJob, Valued}
use Rattle.board_slots.specs.declared.slot.State.TheVariants.{Refused}
use Rattle.board_slots.specs.declared.gifts.Gift.{Gift}
use Rattle.board_slots.specs.declared.gifts.Gift
use Rattle.board_slots.specs.declared.gifts.Ending.{Ending}
use Rattle.board_slots.specs.declared.gifts.Ending
use Rattle.board_slots.specs.declared.wanted.Asked.{Asked}
use Rattle.board_slots.specs.declared.wanted.Asked.TheVariants.{File, Job}

-- the answers of a part that is given one more, or of a job that hasn't begun
abbrev pub queued_answers : {P V : Type 0} → (P → List (Answer Found V)) → Option P
    → Option (Given V) → List (Answer Found V)
queued_answers answers_of None given = []
queued_answers answers_of (Some part) given = after (answers_of part) given

-- where a job stands, after so many answers
abbrev pub state_of : {J P V : Type 0} → (P → List (Answer Found V)) → ℕ → State J P V
    → Boards.State Found V Refusal
state_of answers_of count (Queued copy part given) =
    Boards.Queued (queued_answers answers_of part given)
state_of answers_of count (Claimed worker) = Boards.Claimed worker count
state_of answers_of count (OnFile copy part need) = Boards.OnFile (answers_of part) need
state_of answers_of count (OnJob copy part need place) = Boards.OnJob (answers_of part) need place
state_of answers_of count (Valued value) = Boards.Valued (arc_value value)
state_of answers_of count (Refused refusal) = Boards.RefusedWith (arc_value refusal)

-- a job that hasn't begun has no part and is given nothing; else the part is the job's, and it is
-- given something
abbrev pub IsPartOf : {J P V : Type 0} → (P → J) → J → Option P → Option (Given V) → Type 0
IsPartOf job_of job None None = Unit {0}
IsPartOf job_of job None (Some given) = ⊥
IsPartOf job_of job (Some part) None = ⊥
IsPartOf job_of job (Some part) (Some given) = job_of part ≡ job

-- a parked part is the job's, and has room for one more answer
pub record IsParked {J P V : Type 0} (job_of : P → J) (answers_of : P → List (Answer Found V))
    (job copy : J) (count : ℕ) (part : P) : Type 0 where
  pub copied : copy ≡ job
  pub own : job_of part ≡ job
  pub many : length (answers_of part) ≡ count
  pub room : count < last_count

pub record IsQueued {J P V : Type 0} (job_of : P → J) (answers_of : P → List (Answer Found V))
    (job copy : J) (count : ℕ) (part : Option P) (given : Option (Given V)) : Type 0 where
  pub copied : copy ≡ job
  pub own : IsPartOf job_of job part given
  pub many : length (queued_answers answers_of part given) ≡ count

-- what is kept of a job beside what contracts see: the copy, the part and the count are its own
abbrev pub IsRight : {J P V : Type 0} → (P → J) → (P → List (Answer Found V)) → J → ℕ
    → State J P V → Type 0
IsRight job_of answers_of job count (Queued copy part given) =
    IsQueued job_of answers_of job copy count part given
IsRight job_of answers_of job count (Claimed worker) = Unit {0}
IsRight job_of answers_of job count (OnFile copy part need) =
    IsParked job_of answers_of job copy count part
IsRight job_of answers_of job count (OnJob copy part need place) =
    IsParked job_of answers_of job copy count part
IsRight job_of answers_of job count (Valued value) = Unit {0}
IsRight job_of answers_of job count (Refused refusal) = Unit {0}

-- a need, with what was found at a file
abbrev pub needed_of : Asked → Boards.Needed Found
needed_of (File path found) = Boards.File path (option_map arc_value found)
needed_of (Job place) = Boards.Job place

-- a parked job goes on with the answer
abbrev pub woken : {A V R : Type 0} → Answer A V → Boards.State A V R → Boards.State A V R
woken answer (Boards.OnFile answers need) = Boards.Queued (answer ∷ answers)
woken answer (Boards.OnJob answers need place) = Boards.Queued (answer ∷ answers)
woken answer (Boards.Queued answers) = Boards.Queued answers
woken answer (Boards.Claimed worker count) = Boards.Claimed worker count
woken answer (Boards.Valued v) = Boards.Valued v
woken answer (Boards.RefusedWith r) = Boards.RefusedWith r

-- what a job that is handed this comes to
abbrev pub handed_state : {V : Type 0} → Gift V → Boards.State Found V Refusal
    → Boards.State Found V Refusal
handed_state (Gift.TheVariants.Answer given) state = woken (answer_of given) state
handed_state (Gift.TheVariants.Value value) state = Boards.Valued (arc_value value)
handed_state (Gift.TheVariants.Refusal refusal) state = Boards.RefusedWith (arc_value refusal)

abbrev pub handed_slot : {J V : Type 0} → Option (Gift V) → Boards.Slot J Found V Refusal
    → Boards.Slot J Found V Refusal
handed_slot None slot = slot
handed_slot (Some gift) slot = record { job = slot.job; state = handed_state gift slot.state }

-- each job is handed what stands at its place, if anything does
abbrev pub handed : {J V : Type 0} → List (Option (Gift V)) → List (Boards.Slot J Found V Refusal)
    → List (Boards.Slot J Found V Refusal)
handed [] slots = slots
handed (gift ∷ gifts) [] = []
handed (gift ∷ gifts) (slot ∷ slots) = handed_slot gift slot ∷ handed gifts slots

-- the number of the file's need for which a job waits
abbrev pub file_need_of : {A V R : Type 0} → Boards.State A V R → Option ℕ
file_need_of (Boards.OnFile answers need) = Some need
file_need_of (Boards.OnJob answers need place) = None
file_need_of (Boards.Queued answers) = None
file_need_of (Boards.Claimed worker count) = None
file_need_of (Boards.Valued v) = None
file_need_of (Boards.RefusedWith r) = None

-- what a job that is done came to, behind the references to it
abbrev pub outcome_of : {V Z : Type 0} → Result (Bor (Arc V Z)) (Bor Refusal) → Result V Refusal
outcome_of (Ok value) = Ok (arc_value value.now)
outcome_of (Err refusal) = Err refusal.now

-- the same of a job of which it is handed on
abbrev pub result_in : {V : Type 0} → Ending V → Option (Result V Refusal)
result_in Ending.TheVariants.Open = None
result_in (Ending.TheVariants.Value value) = Some (Ok (arc_value value))
result_in (Ending.TheVariants.Refusal refusal) = Some (Err (arc_value refusal))

-- the job at that place is handed the gift
abbrev pub IsGiftOf : {J V : Type 0} → ℕ → Option (Gift V) → List (Boards.Slot J Found V Refusal)
    → List (Boards.Slot J Found V Refusal) → Type 0
IsGiftOf {J = J} {V = V} place gift old new =
    (slot : Boards.Slot J Found V Refusal) → slice_get old place ≡ Some slot
    → new ≡ slice_set old place (handed_slot gift slot)

-- the rules of a work over files of which nothing is told
abbrev pub bare_rules : {J V : Type 0} → Meaning J V → Rules J (List ℕ) Found V Refusal
bare_rules meaning = rules_of meaning (λ path. Found.TheVariants.Absent)
