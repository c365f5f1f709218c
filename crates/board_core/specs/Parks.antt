-- What parking a job comes to.
use Rattle.std.specs.Prelude.{ℕ, ◌≡◌, ◌+◌, ◌≤◌, Bool, true, false, List, length, Option, None, Some}
use Rattle.std.specs.Prelude.{Result, Ok, Err, slice_get}
use Rattle.std.specs.List.{position_or_len}
use Rattle.bz_base.specs.declared.refusals.Refusal.{Refusal}
use Rattle.bz_tree.specs.declared.tree.Found.{Found}
use Rattle.board_laws.specs.Works.{Answer, Rules}
use Rattle.board_machine.specs.Boards.{Board, Slot, way_to}
use Rattle.board_machine.specs.Events
use Rattle.board_machine.specs.Moves.{is_file, is_job, job_put, park_file, park_job, place_of}
use Rattle.board_machine.specs.Moves.{state_in}
use Rattle.board_slots.specs.Claims.{is_held}
use Rattle.board_slots.specs.Needs.{found_in}
use Rattle.board_slots.specs.Views.{bare_rules}
use Rattle.board_work.specs.Turns.{Meaning}
use Rattle.board_work.specs.declared.events.Parked.{Parked}
use Rattle.board_work.specs.declared.events.Parked.TheVariants.{Waits, Ready, Refused, Cycle, Stray}
use Rattle.board_work.specs.declared.turns.Need.{Need}
use Rattle.board_work.specs.declared.turns.Need.TheVariants.{File, Job}
use Rattle.board_work.specs.declared.worker.Held.{Held}
use Rattle.board_core.specs.Accounts.{Account, Table, ended, wanting_job}
use Rattle.board_core.specs.Calls.{outcome_in}

-- a job that needs a file goes on at once where something was found there, and else waits
abbrev pub file_parked : Option Found → Parked
file_parked None = Waits
file_parked (Some found) = Ready

-- a job that needs another one goes on at once with its value, is refused as it was, and is refused
-- with the cycle where the other one's chain leads back; else it waits
abbrev pub job_parked : {V : Type 0} → Option (Result V Refusal) → Option (List ℕ) → Parked
job_parked (Some (Ok value)) way = Ready
job_parked (Some (Err refusal)) way = Refused
job_parked None (Some places) = Cycle
job_parked None None = Waits

-- what it comes to that the job at a place needs a file, or another job
abbrev pub parked_on_file : {J V : Type 0} → List ℕ → Board J Found V Refusal → Parked
parked_on_file path board =
    file_parked (found_in (slice_get board.needs (position_or_len (is_file path) board.needs)))

abbrev pub parked_on_job : {J V : Type 0} → Rules J (List ℕ) Found V Refusal → ℕ → J
    → Board J Found V Refusal → Parked
parked_on_job rules place asked board =
    let other = place_of rules asked board.slots in
    job_parked (outcome_in (slice_get board.slots other)) (way_to board.slots place other)

abbrev pub parked_on : {J V : Type 0} → Rules J (List ℕ) Found V Refusal → ℕ → Need J
    → Board J Found V Refusal → Parked
parked_on rules place (File path) board = parked_on_file path board
parked_on rules place (Job asked) board = parked_on_job rules place asked board

-- the account once a worker has parked the job at a place on a file, or on another job, after a
-- turn of so many steps
abbrev pub after_file : {J V : Type 0} → ℕ → ℕ → List (Answer Found V) → List ℕ → ℕ
    → Account J V → Account J V
after_file worker place answers path steps account =
    ended (Events.Park worker place (position_or_len (is_file path) account.board.needs)) steps
    (park_file place answers path account.board) account

-- the number of a job's need, or that which it would have
abbrev pub asked_number : {J V : Type 0} → Rules J (List ℕ) Found V Refusal → J
    → Board J Found V Refusal → ℕ
asked_number rules asked board =
    position_or_len (is_job (place_of rules asked board.slots)) board.needs

abbrev pub after_job : {J V : Type 0} → Rules J (List ℕ) Found V Refusal → ℕ → ℕ → J
    → List (Answer Found V) → J → ℕ → Account J V → Account J V
after_job rules worker place job answers asked steps account =
    ended (Events.Park worker place (asked_number rules asked account.board)) steps
    (park_job rules place job answers asked account.board) account

abbrev pub after_park : {J V : Type 0} → Rules J (List ℕ) Found V Refusal → ℕ → ℕ → J
    → List (Answer Found V) → Need J → ℕ → Account J V → Account J V
after_park rules worker place job answers (File path) steps account =
    after_file worker place answers path steps account
after_park rules worker place job answers (Job asked) steps account =
    after_job rules worker place job answers asked steps account

-- the job was held and is parked, which came to that; else, and where memory ran out, nothing
-- happened
abbrev pub ParkGives : {J V E : Type 0} → Bool → Parked → Account J V → Account J V → Account J V
    → Result Parked E → Type 0
ParkGives held what old new after (Ok Stray) = (held ≡ false) × (new ≡ old)
ParkGives held what old new after (Ok Ready) = (held ≡ true) × (what ≡ Ready) × (new ≡ after)
ParkGives held what old new after (Ok Waits) = (held ≡ true) × (what ≡ Waits) × (new ≡ after)
ParkGives held what old new after (Ok Refused) = (held ≡ true) × (what ≡ Refused) × (new ≡ after)
ParkGives held what old new after (Ok Cycle) = (held ≡ true) × (what ≡ Cycle) × (new ≡ after)
ParkGives held what old new after (Err e) = new ≡ old

-- what a worker holds is a job of the board
abbrev pub is_held_on : {W J P V : Type 0} → Meaning J V → Held W J P V → Account J V → Bool
is_held_on meaning held account =
    is_held meaning.text held.job held.worker held.answers (slice_get account.board.slots held.place)

-- what parking the job that a worker holds on a need gives
abbrev pub HeldParkGives : {W J P V E : Type 0} → Meaning J V → Held W J P V
    → List (Answer Found V) → Need J → ℕ → Account J V → Account J V → Result Parked E → Type 0
HeldParkGives meaning held answers need steps old new result =
    ParkGives (is_held_on meaning held old)
    (parked_on (bare_rules meaning) held.place need old.board) old new
    (after_park (bare_rules meaning) held.worker held.place held.job answers need steps old) result

-- the jobs, where the one at a place asks the one at another
unfoldable pub asking_slots : {J V : Type 0} → Rules J (List ℕ) Found V Refusal → ℕ → J
    → List (Answer Found V) → ℕ → Board J Found V Refusal → List (Slot J Found V Refusal)
asking_slots rules place job answers other board =
    job_put rules place job answers (position_or_len (is_job other) board.needs) other
    (way_to board.slots place other) (state_in (slice_get board.slots other)) board.slots

-- the account once it has parked on the job at another place
abbrev pub after_asking : {J V : Type 0} → Rules J (List ℕ) Found V Refusal → ℕ → ℕ → J
    → List (Answer Found V) → ℕ → ℕ → Account J V → Account J V
after_asking rules worker place job answers other steps account =
    ended (Events.Park worker place (position_or_len (is_job other) account.board.needs)) steps
    (wanting_job other (asking_slots rules place job answers other account.board) account.board)
    account

-- what asking the job at another place comes to
abbrev pub parked_at : {J V : Type 0} → ℕ → ℕ → Board J Found V Refusal → Parked
parked_at place other board =
    job_parked (outcome_in (slice_get board.slots other)) (way_to board.slots place other)

-- the call was that event, which came to that; or memory ran out, and nothing changed
abbrev pub IsParkedAs : {J V E : Type 0} → Table J V → Table J V → Parked → Account J V
    → Result Parked E → Type 0
IsParkedAs old new what after (Ok parked) =
    (parked ≡ what) × (new.account ≡ after) × (length after.board.slots + 1 ≤ new.room)
IsParkedAs old new what after (Err e) = (new.account ≡ old.account) × (old.room ≤ new.room)
