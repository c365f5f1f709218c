-- What a step answers of where it leads.
use Rattle.std.specs.Prelude.{◌≡◌, ℕ, suc, nat_lt, true, false, Option, Result, Ok, Err, ⊤}
use Rattle.bz_text.specs.declared.memory.Miss.{Miss}
use Rattle.bz_text.specs.declared.memory.Miss.TheVariants as miss
use Rattle.star_core.specs.declared.faults.Fault.{Fault}
use Rattle.star_core.specs.declared.values.Val.{Val}
use Rattle.star_machine.specs.Configs.{Config}
use Rattle.star_machine.specs.declared.machine.Next.{Next}
use Rattle.star_machine.specs.declared.machine.Next.TheVariants as next
use Rattle.star_meaning.specs.Worlds.{World}
use Rattle.star_meaning.specs.declared.reasons.Place.{Place}
use Rattle.star_meaning.specs.declared.reasons.Reason.{Reason}
use Rattle.star_meaning.specs.declared.reasons.Reason.TheVariants as reason

-- where a step leads: on, to the value of the whole with its world, or to a refusal with its place
-- and the steps up to it
pub data Step : Type 0 where
  Goes : Config → Step
  Ends : Val → World → Step
  Breaks : Reason → Option Place → ℕ → Step

-- a call led there, unless memory ran out
abbrev pub Acted : Step → Result Next (Miss Reason) → Config → Type 0
Acted (Goes config) (Ok next.On) new = new ≡ config
Acted (Goes config) (Ok (next.Done value)) new = ⊥
Acted (Goes config) (Err (miss.Because why)) new = ⊥
Acted (Ends value world) (Ok next.On) new = ⊥
Acted (Ends value world) (Ok (next.Done given)) new = (given ≡ value) × (new.world ≡ world)
Acted (Ends value world) (Err (miss.Because why)) new = ⊥
Acted (Breaks wanted place count) (Ok answer) new = ⊥
Acted (Breaks wanted place count) (Err (miss.Because why)) new =
    (why ≡ wanted) × (new.world.place ≡ place) × (new.world.count ≡ count)
Acted step (Err miss.OutOfMemory) new = ⊤

-- an answer with its fault as a reason
abbrev pub by_fault : {A : Type 0} → Result A (Miss Fault) → Result A (Miss Reason)
by_fault (Ok value) = Ok value
by_fault (Err (miss.Because kind)) = Err (miss.Because (reason.Fault kind))
by_fault (Err miss.OutOfMemory) = Err miss.OutOfMemory

-- what one step more answers, with the count before and behind it
abbrev pub Counted : ℕ → Result (Unit {0}) (Miss Reason) → ℕ → ℕ → Type 0
Counted limit (Ok done) old new = (new ≡ suc old) × (nat_lt (suc old) limit ≡ true)
Counted limit (Err (miss.Because why)) old new =
    (why ≡ reason.Steps) × (new ≡ suc old) × (nat_lt (suc old) limit ≡ false)
Counted limit (Err miss.OutOfMemory) old new = ⊤
