-- Parking on a job keeps what holds of the jobs whatever the files are.
use Rattle.std.proofs.Common.{◌≡◌, ℕ, true, List, ◌∷◌, refl, ap, sym, subst, Option, None, Some}
use Rattle.std.proofs.Common.{slice_get}
use Rattle.std.specs.List.{position_or_len}
use Rattle.board_laws.specs.Works.{Answer, Lawful, Rules, Value}
use Rattle.board_laws.specs.Recursive.{cycle_of}
use Rattle.board_machine.specs.Boards.{State, Queued, Claimed, OnFile, OnJob, Valued, RefusedWith}
use Rattle.board_machine.specs.Boards.{Board, Slot, jobs_at, next_of, way_to}
use Rattle.board_machine.specs.Kept.{IsLinked, IsOpen}
use Rattle.board_machine.specs.Moves.{is_job, job_put, park_job, place_of, state_in, with_job}
use Rattle.board_machine.proofs.Keeping.{asked_stands, still_stands}
use Rattle.board_machine.proofs.Links.{added_linked, join_linked, set_state_linked}
use Rattle.board_machine.proofs.Links.{spread_refusal_linked}

module _ {J A V R : Type 0} (rules : Rules J (List ℕ) A V R) where
  -- a job that asks an open one
  open_linked : (place other need : ℕ) (job : J) (answers : List (Answer A V))
      (slots : List (Slot J A V R)) (old one : Slot J A V R) → IsLinked rules slots
      → slice_get slots place ≡ Some old → next_of old.state ≡ None
      → slice_get slots other ≡ Some one → IsOpen one.state → way_to slots place other ≡ None
      → IsLinked rules (job_put rules place job answers need other None (Queued answers) slots)
  open_linked place other need job answers slots old one linked h none g waits away =
      join_linked rules place other need answers slots old h none
      (record { slot = one; stands = g; waits = waits }) away linked

  job_put_linked : (place other need : ℕ) (job : J) (answers : List (Answer A V))
      (slots : List (Slot J A V R)) (old one : Slot J A V R) → IsLinked rules slots
      → slice_get slots place ≡ Some old → next_of old.state ≡ None
      → slice_get slots other ≡ Some one
      → (state : State A V R) → one.state ≡ state → (way : Option (List ℕ))
      → way_to slots place other ≡ way
      → IsLinked rules (job_put rules place job answers need other way state slots)
  job_put_linked place other need job answers slots old one linked h none g (Valued v) is way e =
      set_state_linked rules place (Queued (Value v ∷ answers)) slots refl tt linked
  job_put_linked place other need job answers slots old one linked h none g (RefusedWith r) is way
      e = spread_refusal_linked rules place r slots linked
  job_put_linked place other need job answers slots old one linked h none g (Queued given) is
      (Some places) e =
      spread_refusal_linked rules place (cycle_of rules (job ∷ jobs_at slots places)) slots linked
  job_put_linked place other need job answers slots old one linked h none g (Claimed w n) is
      (Some places) e =
      spread_refusal_linked rules place (cycle_of rules (job ∷ jobs_at slots places)) slots linked
  job_put_linked place other need job answers slots old one linked h none g (OnFile given n) is
      (Some places) e =
      spread_refusal_linked rules place (cycle_of rules (job ∷ jobs_at slots places)) slots linked
  job_put_linked place other need job answers slots old one linked h none g (OnJob given n p) is
      (Some places) e =
      spread_refusal_linked rules place (cycle_of rules (job ∷ jobs_at slots places)) slots linked
  job_put_linked place other need job answers slots old one linked h none g (Queued given) is None e =
      open_linked place other need job answers slots old one linked h none g
      (subst IsOpen (sym is) tt) e
  job_put_linked place other need job answers slots old one linked h none g (Claimed w n) is None e =
      open_linked place other need job answers slots old one linked h none g
      (subst IsOpen (sym is) tt) e
  job_put_linked place other need job answers slots old one linked h none g (OnFile given n) is None
      e =
      open_linked place other need job answers slots old one linked h none g
      (subst IsOpen (sym is) tt) e
  job_put_linked place other need job answers slots old one linked h none g (OnJob given n p) is None
      e =
      open_linked place other need job answers slots old one linked h none g
      (subst IsOpen (sym is) tt) e

  -- a claimed job that asks another one
  pub asks_linked : (law : Lawful rules) (board : Board J A V R) (place : ℕ) (job asked : J)
      (answers : List (Answer A V)) (old : Slot J A V R) → IsLinked rules board.slots
      → slice_get board.slots place ≡ Some old → next_of old.state ≡ None
      → rules.own asked ≡ true
      → IsLinked rules (park_job rules place job answers asked board).slots
  asks_linked law board place job asked answers old linked h none own =
      let slots = with_job rules asked board.slots in
      let other = place_of rules asked board.slots in
      let need = position_or_len (is_job other) board.needs in
      let one = asked_stands rules law asked board.slots own linked in
      let state_is : state_in (slice_get slots other) ≡ one.0.state = ap state_in one.1 in
      subst (λ state. IsLinked rules (job_put rules place job answers need other (way_to slots place other) state slots)) (sym state_is)
      (job_put_linked place other need job answers slots old one.0
      (added_linked rules asked board.slots own linked)
      (still_stands rules asked board.slots place old h) none one.1 one.0.state refl
      (way_to slots place other) refl)
