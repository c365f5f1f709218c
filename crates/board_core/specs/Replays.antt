-- What happened on a board, whatever the files are: its events, and what each made of it.
use Rattle.std.specs.Prelude.{ℕ, ◌≡◌, true, false, List, [], ◌∷◌, ◌++◌, length, Option, None, Some}
use Rattle.std.specs.Prelude.{slice_get}
use Rattle.std.specs.List.{position_or_len}
use Rattle.board_laws.specs.Works.{Answer, Rules, Reads, Asks}
use Rattle.board_machine.specs.Boards.{Board, Claimed, File, Queued, Slot}
use Rattle.board_machine.specs.Events.{Claim, Event, Finish, Halt, Park, Shelve, begin}
use Rattle.board_machine.specs.Moves.{claim, finish_refused, finish_value, first_queued, halt}
use Rattle.board_machine.specs.Moves.{is_file, is_job, is_over, park_file, park_job, place_of, shelve}

-- the job at that place is claimed by this worker after so many answers
pub record IsClaimedAt {J A V R : Type 0} (board : Board J A V R) (worker place : ℕ) (job : J)
    (count : ℕ) : Type 0 where
  pub slot : Slot J A V R
  pub stands : slice_get board.slots place ≡ Some slot
  pub is_job : slot.job ≡ job
  pub claimed : slot.state ≡ Claimed worker count

-- an event that was possible, and what it made of the board: a parked job needs what comes next
-- after its answers; of what a job ended with, and of what was found, nothing is asked
pub data Changes {J A V R : Type 0} (rules : Rules J (List ℕ) A V R) : Board J A V R → Event
    → Board J A V R → Type 0 where
  claims : {board : Board J A V R} {worker : ℕ} {slot : Slot J A V R} {answers : List (Answer A V)}
      → is_over board ≡ false → slice_get board.slots (first_queued board.slots) ≡ Some slot
      → slot.state ≡ Queued answers
      → Changes rules board (Claim worker (first_queued board.slots)) (claim worker board)
  reads : {board : Board J A V R} {worker place : ℕ} {job : J} {answers : List (Answer A V)}
      {path : List ℕ}
      → IsClaimedAt board worker place job (length answers) → rules.run job answers ≡ Reads path
      → Changes rules board (Park worker place (position_or_len (is_file path) board.needs))
      (park_file place answers path board)
  asks : {board : Board J A V R} {worker place : ℕ} {job asked : J} {answers : List (Answer A V)}
      → IsClaimedAt board worker place job (length answers) → rules.run job answers ≡ Asks asked
      → Changes rules board
      (Park worker place
      (position_or_len (is_job (place_of rules asked board.slots)) board.needs))
      (park_job rules place job answers asked board)
  values : {board : Board J A V R} {worker place count : ℕ} {job : J} (v : V)
      → IsClaimedAt board worker place job count
      → Changes rules board (Finish worker place false) (finish_value place v board)
  refuses : {board : Board J A V R} {worker place count : ℕ} {job : J} (r : R)
      → IsClaimedAt board worker place job count
      → Changes rules board (Finish worker place true) (finish_refused place r board)
  shelves : {board : Board J A V R} {need : ℕ} {path : List ℕ} (found : A)
      → slice_get board.needs need ≡ Some (File path None)
      → Changes rules board (Shelve need) (shelve need found board)
  halts : {board : Board J A V R} → board.halted ≡ false → Changes rules board Halt (halt board)

-- the board is what these events make of the goals, one after another
pub data IsReplay {J A V R : Type 0} (rules : Rules J (List ℕ) A V R) (goals : List J) : List Event
    → Board J A V R → Type 0 where
  opening : IsReplay rules goals [] (begin rules goals)
  happens : {events : List Event} {board after : Board J A V R} {event : Event}
      → IsReplay rules goals events board → Changes rules board event after
      → IsReplay rules goals (events ++ event ∷ []) after
