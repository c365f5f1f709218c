-- How the parts of an evaluation are put together: each goes on with the world and the host that
-- the one before it leaves, and where one stops, all stops.
use Rattle.std.specs.Prelude.{ℕ, List, [], ◌∷◌, Option}
use Rattle.bz_base.specs.declared.refusals.Refusal.{Refusal}
use Rattle.star_core.specs.Hosts.{Asks, HostCall, Lacks, Meaning, Refuses, Reply, Returns}
use Rattle.star_core.specs.Tables.{Table}
use Rattle.star_core.specs.declared.faults.Fault.{Fault}
use Rattle.star_core.specs.declared.faults.Fault.TheVariants as fault
use Rattle.star_core.specs.declared.questions.Question.{Question}
use Rattle.star_core.specs.declared.values.Val.{Val}
use Rattle.star_meaning.specs.Worlds.{Fails, Work, Works, World}
use Rattle.star_meaning.specs.declared.reasons.Place.{Place}
use Rattle.star_meaning.specs.declared.reasons.Reason.{Reason}
use Rattle.star_meaning.specs.declared.reasons.Reason.TheVariants as reason

-- how an evaluation ends: a value with the world and the host behind it; why and where it is
-- refused, by the language or by a host, and after how many steps; or the first question that the
-- table lacks
pub data Outcome (H : Type 0) : Type 0 where
  Done : Val → World → H → Outcome H
  Refused : Reason → Option Place → ℕ → Outcome H
  RefusedByHost : Refusal → Option Place → ℕ → Outcome H
  Unanswered : Question → Outcome H

-- a part's value with the world and the host behind it, or the end of the whole
pub data Res (H A : Type 0) : Type 0 where
  Gives : A → World → H → Res H A
  Stops : Outcome H → Res H A

-- what a part does to the world and the host
abbrev pub M : Type 0 → Type 0 → Type 0
M H A = World → H → Res H A

abbrev pub then_with : {H A B : Type 0} → Res H A → (A → M H B) → Res H B
then_with (Gives value world host) next = next value world host
then_with (Stops outcome) next = Stops outcome

infixl 10 ◌>>=◌
abbrev pub ◌>>=◌ : {H A B : Type 0} → M H A → (A → M H B) → M H B
first >>= next = λ world host. then_with (first world host) next

abbrev pub pure : {H A : Type 0} → A → M H A
pure value = λ world host. Gives value world host

abbrev pub worked : {H A : Type 0} → Work A → H → Res H A
worked (Works value world) host = Gives value world host
worked (Fails why place count) host = Stops (Refused why place count)

-- what needs no host
abbrev pub lift : {H A : Type 0} → (World → Work A) → M H A
lift work = λ world host. worked (work world) host

abbrev pub refuse : {H A : Type 0} → Reason → M H A
refuse why = λ world host. Stops (Refused why world.place world.count)

abbrev pub fail : {H A : Type 0} → Fault → M H A
fail kind = refuse (reason.Fault kind)

-- a change of the world that can't fail
abbrev pub change_to : {H : Type 0} → (World → World) → M H (Unit {0})
change_to change = λ world host. Gives tt (change world) host

-- each in turn
abbrev pub each : {H A : Type 0} → List (M H A) → M H (List A)
each [] = pure []
each (first ∷ more) = do
  value ← first
  others ← each more
  pure (value ∷ others)

abbrev pub replied : {H : Type 0} → Reply H → World → Res H Val
replied (Returns value heap host) world = Gives value (record world { heap = heap }) host
replied (Refuses refusal) world =
    Stops (RefusedByHost refusal world.place world.count)
replied (Asks question) world = Stops (Unanswered question)
replied Lacks world = Stops (Refused (reason.Fault fault.Attr) world.place world.count)

-- a call of a host
abbrev pub asked : {H : Type 0} → Meaning H HostCall → Table → HostCall → M H Val
asked does answers call = λ world host. replied (does host world.heap call answers) world
