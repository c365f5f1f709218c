-- A journal, and its events as the machine has them.
use Rattle.std.specs.Prelude.{ℕ, List}
use Rattle.board_machine.specs.Events
use Rattle.board_work.specs.declared.events.Event.{Event}
use Rattle.board_work.specs.declared.events.Event.TheVariants.{Claim, Park, Finish, Shelve, Halt}

abbrev pub event_of : Event → Events.Event
event_of (Claim worker job) = Events.Claim worker job
event_of (Park worker job need) = Events.Park worker job need
event_of (Finish worker job refused) = Events.Finish worker job refused
event_of (Shelve need) = Events.Shelve need
event_of Halt = Events.Halt

-- what happened, and for how many more events there is room
pub record Log : Type 0 where
  pub events : List Events.Event
  pub room : ℕ
