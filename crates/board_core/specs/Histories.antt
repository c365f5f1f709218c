-- What happened on a board, where the files are told: its events, each possible where it happened,
-- and the steps of the turns that they ended.
use Rattle.std.specs.Prelude.{ℕ, ◌+◌, ◌≡◌, false, List, [], ◌∷◌, ◌++◌, Option, IfSome, min, length}
use Rattle.std.specs.Prelude.{Result, Ok, Err}
use Rattle.bz_base.specs.Counts.{last_count}
use Rattle.bz_base.specs.declared.refusals.Refusal.{Refusal}
use Rattle.bz_tree.specs.declared.tree.Found.{Found}
use Rattle.bz_tree.specs.declared.tree.Found
use Rattle.board_laws.specs.Results.{AllOwn, IsGiven}
use Rattle.board_laws.specs.Works.{Answer, Rules, Turn, Done, Refused}
use Rattle.board_machine.specs.Boards.{Board, Slot}
use Rattle.board_machine.specs.Events.{Event, Step, claims, reads, asks, values, refuses, shelves}
use Rattle.board_machine.specs.Events.{halts, begin}
use Rattle.board_machine.specs.Kept.{IsLinked}
use Rattle.board_machine.specs.Moves.{finish_refused, finish_value}
use Rattle.board_work.specs.Turns.{Meaning, rules_of}
use Rattle.board_slots.specs.Views.{bare_rules}
use Rattle.board_core.specs.Accounts.{HasRoom, Table}
use Rattle.board_core.specs.Replays.{IsReplay}

-- the steps spent once an event has ended a turn, if it did; a count stays at its last value
abbrev pub spent_after : {J A V R : Type 0} {rules : Rules J (List ℕ) A V R}
    {board after : Board J A V R} {event : Event}
    → (J → List (Answer A V) → ℕ) → ℕ → Step rules board event after → ℕ
spent_after ticks spent (claims over stands queued) = spent
spent_after ticks spent (reads {job = job} {answers = answers} held needs) =
    min (spent + ticks job answers) last_count
spent_after ticks spent (asks {job = job} {answers = answers} held needs) =
    min (spent + ticks job answers) last_count
spent_after ticks spent (values {job = job} {answers = answers} held ends) =
    min (spent + ticks job answers) last_count
spent_after ticks spent (refuses {job = job} {answers = answers} held ends) =
    min (spent + ticks job answers) last_count
spent_after ticks spent (shelves unanswered) = spent
spent_after ticks spent (halts going) = spent

-- the board is what these events make of the goals, and so many steps were spent
pub data IsHistory {J A V R : Type 0} (rules : Rules J (List ℕ) A V R)
    (ticks : J → List (Answer A V) → ℕ) (goals : List J) : List Event → Board J A V R → ℕ
    → Type 0 where
  opening : AllOwn rules goals → IsHistory rules ticks goals [] (begin rules goals) 0
  happens : {events : List Event} {board after : Board J A V R} {event : Event} {spent : ℕ}
      → IsHistory rules ticks goals events board spent → (step : Step rules board event after)
      → IsHistory rules ticks goals (events ++ event ∷ []) after (spent_after ticks spent step)

-- what holds of the jobs whatever the files are
abbrev pub IsLinkedFor : {J V : Type 0} → Meaning J V → List (Slot J Found V Refusal) → Type 0
IsLinkedFor meaning slots = IsLinked (rules_of meaning (λ path. Found.TheVariants.Absent)) slots

-- what every call keeps of a board
pub record IsKept {J V : Type 0} (meaning : Meaning J V) (files : Option (List ℕ → Found))
    (goals : List J) (table : Table J V) : Type 0 where
  pub linked : IsLinkedFor meaning table.account.board.slots
  pub replay : IsReplay (bare_rules meaning) goals table.account.journal table.account.board
  pub history : IfSome files (λ file. IsHistory (rules_of meaning file) meaning.ticks goals
      table.account.journal table.account.board table.account.spent)
  pub room : table.account.board.halted ≡ false → HasRoom table

-- what ends a job
abbrev pub ending_turn : {J V : Type 0} → Result V Refusal → Turn J (List ℕ) V Refusal
ending_turn (Ok value) = Done value
ending_turn (Err refusal) = Refused refusal

-- the job comes to the outcome after so many answers that it was to be given, by so many steps
pub record IsOutcomeOf {J V : Type 0} (rules : Rules J (List ℕ) Found V Refusal)
    (ticks : J → List (Answer Found V) → ℕ) (job : J) (count : ℕ) (outcome : Result V Refusal)
    (steps : ℕ) : Type 0 where
  pub answers : List (Answer Found V)
  pub is_given : IsGiven rules job answers
  pub many : length answers ≡ count
  pub ends : rules.run job answers ≡ ending_turn outcome
  pub ticked : steps ≡ min (ticks job answers) last_count

abbrev pub finish_with : {J V : Type 0} → ℕ → Result V Refusal → Board J Found V Refusal
    → Board J Found V Refusal
finish_with place (Ok value) board = finish_value place value board
finish_with place (Err refusal) board = finish_refused place refusal board
