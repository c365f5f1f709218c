-- Loops: the Starlark specification, "For loops" and "Comprehensions". Each turn costs a step,
-- before its variables are bound, and a walk of the container is open while the turns run.
use Rattle.std.specs.Prelude.{List, [], ◌∷◌, Option}
use Rattle.star_core.specs.Heaps.{unwalked, walked}
use Rattle.star_core.specs.declared.values.Val.{Val}
use Rattle.star_meaning.specs.Results.{M, ◌>>=◌, change_to, lift, pure}
use Rattle.star_meaning.specs.Worlds.{begin_at, items_in}
use Rattle.star_meaning.specs.declared.reasons.Exit.{Exit}
use Rattle.star_meaning.specs.declared.reasons.Exit.TheVariants as exit
use Rattle.star_meaning.specs.declared.reasons.Place.{Place}

-- whether the next statement follows, or how the loop or the function is left
pub data Flow : Type 0 where
  Next : Flow
  Left : Exit → Flow

-- what is done gives no value, and the next statement follows
abbrev pub then_next : {H A : Type 0} → M H A → M H Flow
then_next work = do
  _ ← work
  pure Next

abbrev pub go_on : {H : Type 0} → Flow → M H Flow → M H Flow
go_on Next next = next
go_on (Left exit) next = pure (Left exit)

-- whether a loop's next turn follows
abbrev pub turn_on : {H : Type 0} → Flow → M H Flow → M H Flow
turn_on Next next = next
turn_on (Left exit.Continue) next = next
turn_on (Left exit.Break) next = pure Next
turn_on (Left (exit.Return value)) next = pure (Left (exit.Return value))

-- a loop's turns over the items that are left, each where the loop's statement begins
abbrev pub turns : {H : Type 0}
    → Option Place
    → (Val → M H (Unit {0}))
    → M H Flow
    → List Val
    → M H Flow
turns place assign body [] = pure Next
turns place assign body (item ∷ items) = do
  _ ← lift (begin_at place)
  _ ← assign item
  flow ← body
  turn_on flow (turns place assign body items)

-- a walk of a container begins, and one ends
abbrev pub walk : {H : Type 0} → Val → M H (Unit {0})
walk value = change_to (λ world. record world { heap = walked value world.heap })

abbrev pub unwalk : {H : Type 0} → Val → M H (Unit {0})
unwalk value = change_to (λ world. record world { heap = unwalked value world.heap })

-- the items that a value has when the loop begins, in turn, while a walk of it is open
abbrev pub loop : {H : Type 0} → Val → (Val → M H (Unit {0})) → M H Flow → M H Flow
loop value assign body =
    λ world. (do
      items ← lift (items_in value)
      _ ← walk value
      flow ← turns world.place assign body items
      _ ← unwalk value
      pure flow) world

-- The turns of a comprehension's clause, which nothing leaves before they end.
abbrev pub clause_turns : {H : Type 0}
    → Option Place
    → (Val → M H (Unit {0}))
    → M H (Unit {0})
    → List Val
    → M H (Unit {0})
clause_turns place assign inner [] = pure tt
clause_turns place assign inner (item ∷ items) = do
  _ ← lift (begin_at place)
  _ ← assign item
  _ ← inner
  clause_turns place assign inner items

abbrev pub clause_loop : {H : Type 0}
    → Val
    → (Val → M H (Unit {0}))
    → M H (Unit {0})
    → M H (Unit {0})
clause_loop value assign inner =
    λ world. (do
      items ← lift (items_in value)
      _ ← walk value
      _ ← clause_turns world.place assign inner items
      unwalk value) world
