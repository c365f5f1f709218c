-- What statements and expressions work on, and the operations that have no parts. The Starlark
-- specification, "Name binding and variables"; "Data types".
use Rattle.std.specs.Prelude.{ℕ, suc, Bool, nat_lt, ◌==◌, if◌then◌else◌, List, length, map, Option}
use Rattle.std.specs.Prelude.{Some, None, Result, Ok, Err}
use Rattle.star_core.specs.Heaps.{Change, HeapState}
use Rattle.star_core.specs.Scopes.{outwards, variable_at, with_scope, with_variable}
use Rattle.star_core.specs.declared.faults.Fault.{Fault}
use Rattle.star_core.specs.declared.faults.Fault.TheVariants as fault
use Rattle.star_core.specs.declared.scopes.Scope.{Scope}
use Rattle.star_core.specs.declared.values.Val.{Val}
use Rattle.star_library.specs.Kinds.{is_true, items_of}
use Rattle.star_meaning.specs.declared.reasons.Place.{Place}
use Rattle.star_meaning.specs.declared.reasons.Reason.{Reason}
use Rattle.star_meaning.specs.declared.reasons.Reason.TheVariants as reason

-- the number of the scope in which code runs, all scopes, the heap, how many steps were made and
-- at how many the evaluation is refused, and where the innermost running statement begins
pub record World : Type 0 where
  pub scope : ℕ
  pub scopes : List Scope
  pub heap : HeapState
  pub count : ℕ
  pub limit : ℕ
  pub place : Option Place

-- a value and the world behind it; or why and where the evaluation is refused, and after how many
-- steps
pub data Work (A : Type 0) : Type 0 where
  Works : A → World → Work A
  Fails : Reason → Option Place → ℕ → Work A

abbrev pub refused : {A : Type 0} → Reason → World → Work A
refused why world = Fails why world.place world.count

-- one step more; the one that reaches the limit is refused
abbrev pub tick : World → Work (Unit {0})
tick world =
    if nat_lt (suc world.count) world.limit
    then Works tt (record world { count = suc world.count })
    else Fails reason.Steps world.place (suc world.count)

-- a statement begins, or a turn of one
abbrev pub begin_at : Option Place → World → Work (Unit {0})
begin_at place world = tick (record world { place = place })

abbrev pub of_result : {A : Type 0} → Result A Fault → World → Work A
of_result (Ok value) world = Works value world
of_result (Err why) world = refused (reason.Fault why) world

abbrev pub heap_changed : {A : Type 0} → Change A → World → Work A
heap_changed (Ok change) world = Works change.0 (record world { heap = change.1 })
heap_changed (Err why) world = refused (reason.Fault why) world

-- a change of the heap
abbrev pub on_heap : {A : Type 0} → (HeapState → Change A) → World → Work A
on_heap change world = heap_changed (change world.heap) world

abbrev pub set_value : Option Val → Result Val Fault
set_value (Some value) = Ok value
set_value None = Err fault.Unbound

-- the value of a variable so many scopes outwards
unfoldable pub variable : ℕ → ℕ → World → Work Val
variable hops slot world =
    of_result (set_value (variable_at world.scopes (outwards world.scopes hops world.scope) slot))
    world

-- the world with such a variable set
unfoldable pub assigned : ℕ → ℕ → Val → World → World
assigned hops slot value world =
    record world {
      scopes = with_variable world.scopes (outwards world.scopes hops world.scope) slot value;
    }

-- a new scope, in which code goes on, with these values in its first slots
unfoldable pub opened : ℕ → List Val → World → World
opened around values world =
    record world {
      scope = length world.scopes;
      scopes = with_scope world.scopes around (map Some values);
    }

-- whether a value counts as true
abbrev pub truth : Val → World → Work Bool
truth value world = Works (is_true world.heap value) world

-- the items of an iterable value
abbrev pub items_in : Val → World → Work (List Val)
items_in value world = of_result (items_of world.heap value) world

abbrev pub so_many : ℕ → List Val → Result (List Val) Fault
so_many count values = if length values == count then Ok values else Err fault.Value

abbrev pub unpacked_in : ℕ → Result (List Val) Fault → Result (List Val) Fault
unpacked_in count (Ok values) = so_many count values
unpacked_in count (Err why) = Err why

-- the items of an iterable value, which are to be so many
unfoldable pub unpacked : Val → ℕ → World → Work (List Val)
unpacked value count world = of_result (unpacked_in count (items_of world.heap value)) world

-- the line of the innermost running statement; 0 where none runs
abbrev pub line_of : Option Place → ℕ
line_of None = 0
line_of (Some place) = place.line
