-- Whole runs of a machine: one step with a host, what a machine comes to, and what a turn answers.
use Rattle.std.specs.Prelude.{◌≡◌, ℕ, List, [], ◌∷◌, Option, Some, None}
use Rattle.std.specs.Prelude.{length, reverse, ◌++◌}
use Rattle.star_code.specs.declared.code.Code.{Code}
use Rattle.star_code.specs.declared.code.Instr.{Instr}
use Rattle.star_code.specs.declared.code.Instr.TheVariants as instr
use Rattle.star_core.specs.Hosts.{Asks, Field, HostCall, Lacks, Meaning, Method, Refuses, Reply}
use Rattle.star_core.specs.Hosts.{Returns}
use Rattle.star_core.specs.Stacks.{taken}
use Rattle.star_core.specs.Tables.{Table, Within}
use Rattle.star_core.specs.declared.faults.Fault.TheVariants as fault
use Rattle.star_core.specs.declared.values.Args.{Args}
use Rattle.star_core.specs.declared.values.Val.{Val}
use Rattle.star_machine.specs.Configs.{Config, Doing, Leaves, Runs, block_of}
use Rattle.star_machine.specs.Outcomes.{Breaks, Ends, Goes, Step}
use Rattle.star_machine.specs.Steps.{block_ended, left, name_of, perform}
use Rattle.star_meaning.specs.Arguments.{by_position, no_args}
use Rattle.star_meaning.specs.Attributes.{Callee, Defined, Nothing, OfHost, OfLibrary}
use Rattle.star_meaning.specs.Attributes.{attribute_of, callee_of}
use Rattle.star_meaning.specs.Libraries.{Rows}
use Rattle.star_meaning.specs.Results.{Done, Outcome, Refused, RefusedByHost, Unanswered}
use Rattle.star_meaning.specs.Worlds.{World, line_of}
use Rattle.star_meaning.specs.declared.reasons.Attribute.{Attribute}
use Rattle.star_meaning.specs.declared.reasons.Attribute.TheVariants as attribute
use Rattle.star_meaning.specs.declared.reasons.Place.{Place}
use Rattle.star_meaning.specs.declared.reasons.Reason.TheVariants as reason

-- where a step with a host leads: on, or to the end of the run
pub data Went (H : Type 0) : Type 0 where
  On : Config → H → Went H
  Over : Outcome H → Went H

abbrev pub went : {H : Type 0} → Step → H → Went H
went (Goes config) host = On config host
went (Ends value world) host = Over (Done value world host)
went (Breaks why place count) host = Over (Refused why place count)

-- a host replied to a call whose operands are gone
abbrev pub replied_on : {H : Type 0} → Reply H → List Val → Config → Went H
replied_on (Returns value heap host) below config =
    On (record config {
      stack = value ∷ below;
      gathered = no_args;
      world = record config.world { heap = heap };
    }) host
replied_on (Refuses refusal) below config =
    Over (RefusedByHost refusal config.world.place config.world.count)
replied_on (Asks question) below config = Over (Unanswered question)
replied_on Lacks below config =
    Over (Refused (reason.Fault fault.Attr) config.world.place config.world.count)

-- a call of a host, and the operands below its own; None where no host is called
abbrev pub Wanted : Type 0
Wanted = Option (HostCall × List Val)

abbrev pub field_wanted : Attribute → List ℕ → List Val → Wanted
field_wanted (attribute.Hosted object) name below = Some (Field object name, below)
field_wanted (attribute.Lies held) name below = None
field_wanted attribute.IsMethod name below = None
field_wanted attribute.Missing name below = None

abbrev pub top_attribute : List Val → List ℕ → Config → Wanted
top_attribute [] name config = None
top_attribute (value ∷ below) name config =
    field_wanted (attribute_of config.world.heap value name) name below

abbrev pub attribute_wanted : Option (List ℕ) → Config → Wanted
attribute_wanted None config = None
attribute_wanted (Some name) config = top_attribute config.stack name config

abbrev pub method_wanted : Callee → Args → Option Place → List Val → Wanted
method_wanted (Defined f defaults) args place below = None
method_wanted (OfHost object method) args place below =
    Some (Method object method args (line_of place), below)
method_wanted OfLibrary args place below = None
method_wanted Nothing args place below = None

abbrev pub callee_wanted : Args → List Val → Config → Wanted
callee_wanted args [] config = None
callee_wanted args (f ∷ below) config =
    method_wanted (callee_of config.world.heap f) args config.world.place below

abbrev pub call_wanted : Option (List Val × List Val) → Config → Wanted
call_wanted None config = None
call_wanted (Some top) config = callee_wanted (by_position top.0) top.1 config

-- the call of a host that an instruction makes
unfoldable pub wanted : List Code → Instr → Config → Wanted
wanted codes (instr.Attr index) config =
    attribute_wanted (name_of codes config.file index) config
wanted codes (instr.Call count) config = call_wanted (taken count [] config.stack) config
wanted codes instr.CallGathered config = callee_wanted config.gathered config.stack config
wanted codes (instr.Begin line) config = None
wanted codes instr.Tick config = None
wanted codes (instr.Constant value) config = None
wanted codes (instr.Push value) config = None
wanted codes (instr.Name hops slot) config = None
wanted codes (instr.Set hops slot) config = None
wanted codes instr.Forget config = None
wanted codes (instr.List count) config = None
wanted codes (instr.Tuple count) config = None
wanted codes instr.Dict config = None
wanted codes instr.Entry config = None
wanted codes (instr.Unary op) config = None
wanted codes (instr.Binary op) config = None
wanted codes (instr.Short truth block) config = None
wanted codes (instr.If chosen other) config = None
wanted codes (instr.Defaults function) config = None
wanted codes (instr.Def function) config = None
wanted codes instr.CheckItems config = None
wanted codes instr.CheckKeywords config = None
wanted codes (instr.Gather shape) config = None
wanted codes (instr.Within block) config = None
wanted codes instr.Collect config = None
wanted codes instr.CollectEntry config = None
wanted codes instr.Index config = None
wanted codes instr.Slice config = None
wanted codes instr.SetIndex config = None
wanted codes (instr.Unpack count) config = None
wanted codes (instr.For body) config = None
wanted codes instr.Return config = None
wanted codes instr.Break config = None
wanted codes instr.Continue config = None
wanted codes (instr.AugmentName op hops slot) config = None
wanted codes instr.Fetch config = None
wanted codes (instr.AugmentIndex op) config = None
wanted codes instr.NotAssignable config = None

-- where a machine stands at the beginning of a file's code
abbrev pub file_begun : List Code → ℕ → Code → World → Config
file_begun codes number code world =
    record {
      file = number;
      doing = Runs (block_of codes number code.top);
      stack = [];
      gathered = no_args;
      onward = [];
      callers = [];
      running = [];
      world = world;
    }

-- where a machine stands before a call of a value from outside
abbrev pub call_begun : ℕ → Val → List Val → World → Config
call_begun number f values world =
    record {
      file = number;
      doing = Runs (instr.Call (length values) ∷ instr.Return ∷ []);
      stack = reverse values ++ (f ∷ []);
      gathered = no_args;
      onward = [];
      callers = [];
      running = [];
      world = world;
    }

module _ {H : Type 0} (does : Meaning H HostCall) (library : Rows) (codes : List Code) where
  module _ (answers : Table) where
    abbrev pub instructed : Wanted → Instr → Config → H → Went H
    instructed (Some call) i config host =
        replied_on (does host config.world.heap call.0 answers) call.1 config
    instructed None i config host = went (perform library codes i config) host

    abbrev pub acted : Doing → Config → H → Went H
    acted (Runs []) config host = went (block_ended config.onward config) host
    acted (Runs (i ∷ rest)) config host =
        instructed (wanted codes i (record config { doing = Runs rest })) i
        (record config { doing = Runs rest }) host
    acted (Leaves exit) config host = went (left exit config.onward config) host

    -- one step
    abbrev pub act : Config → H → Went H
    act config host = acted config.doing config host

    -- a machine that stands there comes to that outcome
    pub data Comes : Config → H → Outcome H → Type 0 where
      over : {config : Config} {host : H} {outcome : Outcome H}
          → act config host ≡ Over outcome
          → Comes config host outcome
      on : {config next : Config} {host host_next : H} {outcome : Outcome H}
          → act config host ≡ On next host_next
          → Comes next host_next outcome
          → Comes config host outcome

  -- Whatever a machine comes to from the first place, it comes to from the second, with each table
  -- that has these answers and more.
  pub record Follows (answers : Table) (before : Config) (host : H) (now : Config) (host_now : H)
      : Type 0 where
    pub follows : (more : Table) (outcome : Outcome H)
        → Within answers more
        → Comes more before host outcome
        → Comes more now host_now outcome
