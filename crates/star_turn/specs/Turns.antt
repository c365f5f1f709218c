-- What one step with a host and a whole turn answer of what their machine comes to.
use Rattle.std.specs.Prelude.{◌≡◌, Bool, true, false, List, Result, Ok, Err, ⊤}
use Rattle.bz_text.specs.declared.memory.Miss.{Miss}
use Rattle.bz_text.specs.declared.memory.Miss.TheVariants as miss
use Rattle.star_code.specs.declared.code.Code.{Code}
use Rattle.star_core.specs.Hosts.{HostCall, Meaning}
use Rattle.star_core.specs.Tables.{Table}
use Rattle.star_machine.specs.Configs.{Config}
use Rattle.star_machine.specs.declared.machine.Next.{Next}
use Rattle.star_machine.specs.declared.machine.Next.TheVariants as next
use Rattle.star_meaning.specs.Libraries.{Rows}
use Rattle.star_meaning.specs.Results.{Done, Outcome, Refused, RefusedByHost, Unanswered}
use Rattle.star_meaning.specs.declared.reasons.Reason.{Reason}
use Rattle.star_runs.specs.Runs.{Comes, Follows, On, Over, Went}
use Rattle.star_turn.specs.declared.turns.Came.{Came}
use Rattle.star_turn.specs.declared.turns.Came.TheVariants as came

-- a step led there, unless memory ran out; one that asks leaves all as it was
abbrev pub WentTo : {H : Type 0}
    → Went H
    → Result Came (Miss Reason)
    → (old new : Config)
    → (host_old host_new : H)
    → Type 0
WentTo went (Ok came.On) old new host_old host_new = went ≡ On new host_new
WentTo went (Ok (came.Done value)) old new host_old host_new =
    went ≡ Over (Done value new.world host_new)
WentTo went (Ok (came.Asks question)) old new host_old host_new =
    (went ≡ Over (Unanswered question)) × (new ≡ old) × (host_new ≡ host_old)
WentTo went (Ok (came.Denied refusal)) old new host_old host_new =
    went ≡ Over (RefusedByHost refusal new.world.place new.world.count)
WentTo went (Err (miss.Because why)) old new host_old host_new =
    went ≡ Over (Refused why new.world.place new.world.count)
WentTo went (Err miss.OutOfMemory) old new host_old host_new = ⊤

-- what a step without a host answers
abbrev pub came_of : Result Next (Miss Reason) → Result Came (Miss Reason)
came_of (Ok next.On) = Ok came.On
came_of (Ok (next.Done value)) = Ok (came.Done value)
came_of (Err (miss.Because why)) = Err (miss.Because why)
came_of (Err miss.OutOfMemory) = Err miss.OutOfMemory

abbrev pub leads_on : Result Came (Miss Reason) → Bool
leads_on (Ok came.On) = true
leads_on (Ok (came.Done value)) = false
leads_on (Ok (came.Asks question)) = false
leads_on (Ok (came.Denied refusal)) = false
leads_on (Err why) = false

-- a turn tells that outcome, unless memory ran out
abbrev pub Told : {H : Type 0}
    → Outcome H
    → Result Came (Miss Reason)
    → Config
    → H
    → Type 0
Told outcome (Ok came.On) new host = ⊥
Told outcome (Ok (came.Done value)) new host = outcome ≡ Done value new.world host
Told outcome (Ok (came.Asks question)) new host = outcome ≡ Unanswered question
Told outcome (Ok (came.Denied refusal)) new host =
    outcome ≡ RefusedByHost refusal new.world.place new.world.count
Told outcome (Err (miss.Because why)) new host =
    outcome ≡ Refused why new.world.place new.world.count
Told outcome (Err miss.OutOfMemory) new host = ⊤

-- an outcome for which no answer is missing
abbrev pub IsAnswered : {H : Type 0} → Outcome H → Type 0
IsAnswered (Done value world host) = ⊤
IsAnswered (Refused why place count) = ⊤
IsAnswered (RefusedByHost refusal place count) = ⊤
IsAnswered (Unanswered question) = ⊥

module _ {H : Type 0} (does : Meaning H HostCall) (library : Rows) (codes : List Code)
    (answers : Table) where
  -- a turn tells what its machine comes to
  abbrev pub Tells : Config → H → Result Came (Miss Reason) → Config → H → Type 0
  Tells before host answer now host_now =
      (outcome : Outcome H)
      → Comes does library codes answers before host outcome
      → Told outcome answer now host_now

  -- a machine that asks goes on where it stopped
  abbrev pub ParksAt : Config → H → Result Came (Miss Reason) → Config → H → Type 0
  ParksAt before host (Ok (came.Asks question)) now host_now =
      Follows does library codes answers before host now host_now
  ParksAt before host (Ok came.On) now host_now = ⊤
  ParksAt before host (Ok (came.Done value)) now host_now = ⊤
  ParksAt before host (Ok (came.Denied refusal)) now host_now = ⊤
  ParksAt before host (Err why) now host_now = ⊤
