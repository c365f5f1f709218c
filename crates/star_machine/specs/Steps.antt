-- What each instruction does to where a machine stands. The instruction itself is gone from what is
-- left of its block.
use Rattle.std.specs.Prelude.{ℕ, Bool, true, false, cond, nat_lt, if◌then◌else◌, List}
use Rattle.std.specs.Prelude.{[], ◌∷◌, ◌++◌, length, Option, Some, None, slice_get}
use Rattle.std.specs.Prelude.{drop, option_and_then}
use Rattle.star_code.specs.declared.code.Code.{Code}
use Rattle.star_code.specs.declared.code.FnEntry.{FnEntry}
use Rattle.star_code.specs.declared.code.Instr.{Instr}
use Rattle.star_code.specs.declared.code.Instr.TheVariants as instr
use Rattle.star_core.specs.Heaps.{made, unwalked, walked}
use Rattle.star_core.specs.Stacks.{taken}
use Rattle.star_core.specs.declared.cells.Cell.TheVariants as cell
use Rattle.star_core.specs.declared.faults.Fault.{Fault}
use Rattle.star_core.specs.declared.faults.Fault.TheVariants as fault
use Rattle.star_core.specs.declared.values.Args.{Args}
use Rattle.star_core.specs.declared.values.Val.{Val}
use Rattle.star_core.specs.declared.values.Val.TheVariants as val
use Rattle.star_machine.specs.Configs.{Behind, Caller, Config, Doing, Leaves, Onward, Outwards, Runs}
use Rattle.star_machine.specs.Configs.{Turns, block_of}
use Rattle.star_machine.specs.Outcomes.{Breaks, Ends, Goes, Step}
use Rattle.star_meaning.specs.Arguments.{by_position, no_args}
use Rattle.star_meaning.specs.Attributes.{Callee, Defined, Nothing, OfHost, OfLibrary}
use Rattle.star_meaning.specs.Attributes.{attribute_of, callee_of}
use Rattle.star_meaning.specs.Calls.{given_by, is_running, running_of}
use Rattle.star_meaning.specs.Expressions.{appended, args_in, closure, entry_displayed, items_checked}
use Rattle.star_meaning.specs.Expressions.{keywords_checked, same_bool}
use Rattle.star_meaning.specs.Libraries.{Rows}
use Rattle.star_meaning.specs.Parameters.{bound}
use Rattle.star_meaning.specs.Statements.{augmented}
use Rattle.star_meaning.specs.Worlds.{Fails, Work, Works, World, assigned, begin_at, items_in}
use Rattle.star_meaning.specs.Worlds.{on_heap, opened, tick, truth, unpacked, variable}
use Rattle.star_meaning.specs.declared.arguments.Way.{Way}
use Rattle.star_meaning.specs.declared.reasons.Attribute.{Attribute}
use Rattle.star_meaning.specs.declared.reasons.Attribute.TheVariants as attribute
use Rattle.star_meaning.specs.declared.reasons.Closure.{Closure}
use Rattle.star_meaning.specs.declared.reasons.Exit.{Exit}
use Rattle.star_meaning.specs.declared.reasons.Exit.TheVariants as exit
use Rattle.star_meaning.specs.declared.reasons.Place.{Place}
use Rattle.star_meaning.specs.declared.reasons.Reason.{Reason}
use Rattle.star_meaning.specs.declared.reasons.Reason.TheVariants as reason
use Rattle.star_meaning.specs.declared.reasons.TheConstants.{MOST_CALLS}
use Rattle.star_trees.specs.declared.trees.BinOp.{BinOp}
use Rattle.star_trees.specs.declared.trees.UnOp.{UnOp}

abbrev pub breaks : Reason → Config → Step
breaks why config = Breaks why config.world.place config.world.count

abbrev pub faults : Fault → Config → Step
faults kind config = breaks (reason.Fault kind) config

-- what follows a part that needs no other
abbrev pub after : {A : Type 0} → Work A → (A → World → Step) → Step
after (Works value world) next = next value world
after (Fails why place count) next = Breaks why place count

-- goes on with these operands in another world
abbrev pub on_with : Config → List Val → World → Step
on_with config stack world = Goes (record config { stack = stack; world = world })

-- goes on with a value on these operands
abbrev pub pushed : Config → List Val → Val → World → Step
pushed config below value world = on_with config (value ∷ below) world

-- the topmost operand and those below it; the code of a tree never lacks one
abbrev pub on_one : Config → List Val → (Val → List Val → Step) → Step
on_one config [] next = faults fault.Kind config
on_one config (top ∷ below) next = next top below

abbrev pub on_two : Config → List Val → (Val → Val → List Val → Step) → Step
on_two config [] next = faults fault.Kind config
on_two config (top ∷ []) next = faults fault.Kind config
on_two config (top ∷ second ∷ below) next = next second top below

abbrev pub on_many : Config → Option (List Val × List Val) → (List Val → List Val → Step) → Step
on_many config None next = faults fault.Kind config
on_many config (Some top) next = next top.0 top.1

abbrev pub begun : ℕ → Config → Step
begun line config =
    after (begin_at (Some (record { file = config.file; line = line })) config.world)
    (λ _ world. on_with config config.stack world)

abbrev pub ticked : Config → Step
ticked config = after (tick config.world) (λ _ world. on_with config config.stack world)

abbrev pub constant : Val → Config → Step
constant value config = after (tick config.world) (λ _ world. pushed config config.stack value world)

abbrev pub plain_pushed : Val → Config → Step
plain_pushed value config = pushed config config.stack value config.world

abbrev pub named : ℕ → ℕ → Config → Step
named hops slot config =
    after (tick config.world) (λ _ world.
    after (variable hops slot world) (pushed config config.stack))

abbrev pub set : ℕ → ℕ → Config → Step
set hops slot config =
    on_one config config.stack (λ value below.
    on_with config below (assigned hops slot value config.world))

abbrev pub forgotten : Config → Step
forgotten config = on_one config config.stack (λ value below. on_with config below config.world)

abbrev pub listed : ℕ → Config → Step
listed count config =
    on_many config (taken count [] config.stack) (λ values below.
    after (on_heap (made (cell.List values)) config.world) (pushed config below))

abbrev pub tupled : ℕ → Config → Step
tupled count config =
    on_many config (taken count [] config.stack) (λ values below.
    after (on_heap (made (cell.Tuple values)) config.world) (pushed config below))

abbrev pub dict_made : Config → Step
dict_made config = after (on_heap (made (cell.Dict [])) config.world) (pushed config config.stack)

abbrev pub entry_put : Rows → Config → Step
entry_put library config =
    on_two config config.stack (λ key value below.
    on_one config below (λ dict rest.
    after (on_heap (entry_displayed library dict key value) config.world)
    (λ _ world. on_with config below world)))

abbrev pub unary_done : Rows → UnOp → Config → Step
unary_done library op config =
    on_one config config.stack (λ x below.
    after (on_heap (library.unary op x) config.world) (pushed config below))

abbrev pub binary_done : Rows → BinOp → Config → Step
binary_done library op config =
    on_two config config.stack (λ x y below.
    after (on_heap (library.binary op x y) config.world) (pushed config below))

abbrev pub rest_of : Doing → List Instr
rest_of (Runs rest) = rest
rest_of (Leaves exit) = []

-- a block is run, and then what is left of this one
abbrev pub into_block : Config → List Instr → List Val → Step
into_block config block below =
    Goes (record config {
      doing = Runs block;
      stack = below;
      onward = Behind (rest_of config.doing) ∷ config.onward;
    })

abbrev pub short : List Code → Bool → ℕ → Config → Step
short codes wanted block config =
    on_one config config.stack (λ x below.
    after (truth x config.world) (λ counts world.
    cond (same_bool wanted counts)
    (into_block config (block_of codes config.file block) below)
    (on_with config (x ∷ below) world)))

abbrev pub branched : List Code → ℕ → ℕ → Config → Step
branched codes chosen other config =
    on_one config config.stack (λ x below.
    after (truth x config.world) (λ counts world.
    into_block config (block_of codes config.file (cond counts chosen other)) below))

-- a function of a file's code
unfoldable pub function_entry : List Code → ℕ → ℕ → Option FnEntry
function_entry codes file function =
    option_and_then (λ code. slice_get code.functions function) (slice_get codes file)

-- the topmost operands become the defaults of a function
abbrev pub defined_of : ℕ → Option FnEntry → Config → Step
defined_of function None config = faults fault.Kind config
defined_of function (Some entry) config =
    on_many config (taken entry.optional [] config.stack) (λ defaults below.
    after (closure config.file function entry.name defaults config.world) (pushed config below))

abbrev pub defined : List Code → ℕ → Config → Step
defined codes function config = defined_of function (function_entry codes config.file function) config

-- the block of a function's defaults is run
abbrev pub defaulted_of : List Code → Option FnEntry → Config → Step
defaulted_of codes None config = faults fault.Kind config
defaulted_of codes (Some entry) config =
    into_block config (block_of codes config.file entry.defaults) config.stack

abbrev pub defaulted : List Code → ℕ → Config → Step
defaulted codes function config =
    defaulted_of codes (function_entry codes config.file function) config

-- a block is run in a scope of its own
abbrev pub inwards : List Code → ℕ → Config → Step
inwards codes block config =
    Goes (record config {
      doing = Runs (block_of codes config.file block);
      onward = Outwards config.world.scope (rest_of config.doing) ∷ config.onward;
      world = opened config.world.scope [] config.world;
    })

-- the world in another of its scopes
abbrev pub in_scope : ℕ → World → World
in_scope scope world = record world { scope = scope }

-- an item, or an entry, is put into the container below it
abbrev pub collected : Config → Step
collected config =
    on_two config config.stack (λ list item below.
    after (on_heap (appended list item) config.world)
    (λ _ world. on_with config (list ∷ below) world))

abbrev pub entry_collected : Rows → Config → Step
entry_collected library config =
    on_two config config.stack (λ key value below.
    on_one config below (λ dict rest.
    after (on_heap (library.set_index dict key value) config.world)
    (λ _ world. on_with config below world)))

-- operands that are to be spread
abbrev pub items_tested : Config → Step
items_tested config =
    on_one config config.stack (λ value below.
    after (items_checked value config.world) (λ _ world. on_with config config.stack world))

abbrev pub keywords_tested : Config → Step
keywords_tested config =
    on_one config config.stack (λ value below.
    after (keywords_checked value config.world) (λ _ world. on_with config config.stack world))

-- a shape of a call of a file's code; nothing where there is none
unfoldable pub shape_of : List Code → ℕ → ℕ → Option (List Way)
shape_of codes file index =
    option_and_then (λ code. slice_get code.shapes index) (slice_get codes file)

abbrev pub gathered_in : List Way → Config → Step
gathered_in ways config =
    on_many config (taken (length ways) [] config.stack) (λ values below.
    after (args_in ways values config.world) (λ args world.
    Goes (record config { stack = below; gathered = args; world = world })))

abbrev pub gathered_by : Option (List Way) → Config → Step
gathered_by None config = faults fault.Kind config
gathered_by (Some ways) config = gathered_in ways config

abbrev pub gathered_step : List Code → ℕ → Config → Step
gathered_step codes shape config = gathered_by (shape_of codes config.file shape) config

abbrev pub indexed : Rows → Config → Step
indexed library config =
    on_two config config.stack (λ of at below.
    after (on_heap (library.index of at) config.world) (pushed config below))

abbrev pub sliced : Rows → Config → Step
sliced library config =
    on_two config config.stack (λ last by below.
    on_two config below (λ of first rest.
    after (on_heap (library.slice of first last by) config.world) (pushed config rest)))

abbrev pub index_put : Rows → Config → Step
index_put library config =
    on_two config config.stack (λ of at below.
    on_one config below (λ value rest.
    after (on_heap (library.set_index of at value) config.world)
    (λ _ world. on_with config rest world)))

abbrev pub unpacked_on : ℕ → Config → Step
unpacked_on count config =
    on_one config config.stack (λ value below.
    after (unpacked value count config.world)
    (λ values world. on_with config (values ++ below) world))

-- the next turn of a loop, or its end, with which the walk of the container ends
abbrev pub turned : List Val
    → Val
    → List Instr
    → Option Place
    → List Instr
    → List Onward
    → Config
    → Step
turned [] over body place rest onward config =
    Goes (record config {
      doing = Runs rest;
      onward = onward;
      world = record config.world { heap = unwalked over config.world.heap };
    })
turned (item ∷ items) over body place rest onward config =
    after (begin_at place config.world) (λ _ world.
    Goes (record config {
      doing = Runs body;
      stack = item ∷ config.stack;
      onward = Turns items over body place rest ∷ onward;
      world = world;
    }))

abbrev pub looped : List Code → ℕ → Config → Step
looped codes body config =
    on_one config config.stack (λ over below.
    after (items_in over config.world) (λ items world.
    turned items over (block_of codes config.file body) world.place (rest_of config.doing)
    config.onward
    (record config {
      stack = below;
      world = record world { heap = walked over world.heap };
    })))

abbrev pub leaving : Exit → Config → Step
leaving exit config = Goes (record config { doing = Leaves exit })

abbrev pub given_back : Config → Step
given_back config =
    on_one config config.stack (λ value below.
    Goes (record config { doing = Leaves (exit.Return value); stack = below }))

abbrev pub put_some : (Val → World → Work (Unit {0})) → Option Val → World → Work (Unit {0})
put_some put (Some value) world = put value world
put_some put None world = Works tt world

abbrev pub name_augmented : Rows → BinOp → ℕ → ℕ → Config → Step
name_augmented library op hops slot config =
    on_two config config.stack (λ old by below.
    after (on_heap (augmented library op old by) config.world) (λ new world.
    after (put_some (λ value there. Works tt (assigned hops slot value there)) new world)
    (λ _ after_all. on_with config below after_all)))

abbrev pub fetched : Rows → Config → Step
fetched library config =
    on_two config config.stack (λ of at below.
    after (on_heap (library.index of at) config.world)
    (λ value world. on_with config (value ∷ at ∷ of ∷ below) world))

abbrev pub index_augmented : Rows → BinOp → Config → Step
index_augmented library op config =
    on_two config config.stack (λ old by below.
    on_two config below (λ of at rest.
    after (on_heap (augmented library op old by) config.world) (λ new world.
    after (put_some (λ value. on_heap (library.set_index of at value)) new world)
    (λ _ after_all. on_with config rest after_all))))

-- a method of a value, to be called later
abbrev pub method_pushed : Val → List ℕ → List Val → Config → Step
method_pushed value name below config =
    after (on_heap (made (cell.Bound value name)) config.world) (pushed config below)

-- an attribute that no host has
abbrev pub attribute_pushed : Attribute → Val → List ℕ → List Val → Config → Step
attribute_pushed (attribute.Hosted object) value name below config = faults fault.Kind config
attribute_pushed (attribute.Lies held) value name below config = pushed config below held config.world
attribute_pushed attribute.IsMethod value name below config =
    method_pushed value name below config
attribute_pushed attribute.Missing value name below config = faults fault.Attr config

-- the attribute of the top with a name
abbrev pub attribute_step : List ℕ → Config → Step
attribute_step name config =
    on_one config config.stack (λ value below.
    attribute_pushed (attribute_of config.world.heap value name) value name below config)

-- a name of a file's code; nothing where there is none
unfoldable pub name_of : List Code → ℕ → ℕ → Option (List ℕ)
name_of codes file index =
    option_and_then (λ code. slice_get code.names index) (slice_get codes file)

abbrev pub attribute_named : Option (List ℕ) → Config → Step
attribute_named None config = faults fault.Kind config
attribute_named (Some name) config = attribute_step name config

-- the run that waits for a call, whose operands are below it
abbrev pub waiting : Config → List Val → Caller
waiting config below =
    record {
      file = config.file;
      rest = rest_of config.doing;
      stack = below;
      onward = config.onward;
      scope = config.world.scope;
      place = config.world.place;
    }

-- a call of a function's code begins
abbrev pub entered : List Code → Closure → ℕ → List Val → List Val → Config → Step
entered codes f block values below config =
    Goes (record {
      file = f.file;
      doing = Runs (block_of codes f.file block);
      stack = [];
      gathered = config.gathered;
      onward = [];
      callers = waiting config below ∷ config.callers;
      running = running_of f ∷ config.running;
      world = opened f.around values config.world;
    })

-- no call of the function may run, and not too many calls
abbrev pub entered_if : List Code → Closure → FnEntry → List Val → List Val → Config → Step
entered_if codes f entry values below config =
    if is_running (running_of f) config.running
    then faults fault.Recursion config
    else (if nat_lt (length config.running) MOST_CALLS
    then entered codes f entry.block values below config
    else faults fault.Depth config)

-- the arguments are bound first
abbrev pub entered_of : Rows
    → List Code
    → Closure
    → List Val
    → Option FnEntry
    → Args
    → List Val
    → Config
    → Step
entered_of library codes f defaults None args below config = faults fault.Kind config
entered_of library codes f defaults (Some entry) args below config =
    after (on_heap (bound library entry.params defaults args) config.world)
    (λ values world. entered_if codes f entry values below (record config { world = world }))

abbrev pub library_if : Bool → Step → Config → Step
library_if true plain config = breaks reason.Unbuilt config
library_if false plain config = plain

-- a call of the library that neither calls back nor asks the host
abbrev pub library_called : Rows → Val → Args → List Val → Config → Step
library_called library f args below config =
    library_if (library.calls_back f args config.world.heap)
    (after (on_heap (library.call f args) config.world) (pushed config below)) config

-- a call of what no host answers for
abbrev pub called : Rows → List Code → Val → Callee → Args → List Val → Config → Step
called library codes of (Defined f defaults) args below config =
    entered_of library codes f defaults (function_entry codes f.file f.function) args below config
called library codes of (OfHost object method) args below config = faults fault.Kind config
called library codes of OfLibrary args below config = library_called library of args below config
called library codes of Nothing args below config = faults fault.Kind config

-- a call of the value below so many arguments
abbrev pub called_below : Rows → List Code → ℕ → Config → Step
called_below library codes count config =
    on_many config (taken count [] config.stack) (λ values below.
    on_one config below (λ f rest.
    called library codes f (callee_of config.world.heap f) (by_position values) rest config))

-- no arguments are gathered
abbrev pub at_rest : Config → Config
at_rest config = record config { gathered = no_args }

-- a call of the top with the arguments that were gathered
abbrev pub called_gathered : Rows → List Code → Config → Step
called_gathered library codes config =
    on_one config config.stack (λ f below.
    called library codes f (callee_of config.world.heap f) config.gathered below
    (at_rest config))

-- a block ended
abbrev pub block_ended : List Onward → Config → Step
block_ended [] config = Goes (record config { doing = Leaves (exit.Return val.None) })
block_ended (Behind rest ∷ onward) config =
    Goes (record config { doing = Runs rest; onward = onward })
block_ended (Outwards scope rest ∷ onward) config =
    Goes (record config {
      doing = Runs rest;
      onward = onward;
      world = in_scope scope config.world;
    })
block_ended (Turns items over body place rest ∷ onward) config =
    turned items over body place rest onward config

-- a function gave a value, and its caller's variables and statement are there again
abbrev pub returned : Val → List Caller → Config → Step
returned value [] config = Ends value config.world
returned value (caller ∷ callers) config =
    Goes (record {
      file = caller.file;
      doing = Runs caller.rest;
      stack = value ∷ caller.stack;
      gathered = config.gathered;
      onward = caller.onward;
      callers = callers;
      running = drop 1 config.running;
      world = record config.world { scope = caller.scope; place = caller.place };
    })

-- a loop is met on the way out
abbrev pub out_of_loop : Exit
    → List Val
    → Val
    → List Instr
    → Option Place
    → List Instr
    → List Onward
    → Config
    → Step
out_of_loop (exit.Return value) items over body place rest onward config =
    Goes (record config {
      onward = onward;
      world = record config.world { heap = unwalked over config.world.heap };
    })
out_of_loop exit.Break items over body place rest onward config =
    Goes (record config {
      doing = Runs rest;
      onward = onward;
      world = record config.world { heap = unwalked over config.world.heap };
    })
out_of_loop exit.Continue items over body place rest onward config =
    turned items over body place rest onward config

-- the way out: blocks end, the walks of loops end, and then the function is left
abbrev pub left : Exit → List Onward → Config → Step
left exit [] config = returned (given_by exit) config.callers config
left exit (Behind rest ∷ onward) config = Goes (record config { onward = onward })
left exit (Outwards scope rest ∷ onward) config =
    Goes (record config { onward = onward; world = in_scope scope config.world })
left exit (Turns items over body place rest ∷ onward) config =
    out_of_loop exit items over body place rest onward config

-- one instruction for which no host is called, where the rest of its block is left
unfoldable pub perform : Rows → List Code → Instr → Config → Step
perform library codes (instr.Begin line) config = begun line config
perform library codes instr.Tick config = ticked config
perform library codes (instr.Constant value) config = constant value config
perform library codes (instr.Push value) config = plain_pushed value config
perform library codes (instr.Name hops slot) config = named hops slot config
perform library codes (instr.Set hops slot) config = set hops slot config
perform library codes instr.Forget config = forgotten config
perform library codes (instr.List count) config = listed count config
perform library codes (instr.Tuple count) config = tupled count config
perform library codes instr.Dict config = dict_made config
perform library codes instr.Entry config = entry_put library config
perform library codes (instr.Unary op) config = unary_done library op config
perform library codes (instr.Binary op) config = binary_done library op config
perform library codes (instr.Short wanted block) config = short codes wanted block config
perform library codes (instr.If chosen other) config = branched codes chosen other config
perform library codes (instr.Defaults function) config = defaulted codes function config
perform library codes (instr.Def function) config = defined codes function config
perform library codes (instr.Attr index) config =
    attribute_named (name_of codes config.file index) config
perform library codes instr.Index config = indexed library config
perform library codes instr.Slice config = sliced library config
perform library codes (instr.Call count) config = called_below library codes count config
perform library codes instr.CheckItems config = items_tested config
perform library codes instr.CheckKeywords config = keywords_tested config
perform library codes (instr.Gather shape) config = gathered_step codes shape config
perform library codes instr.CallGathered config = called_gathered library codes config
perform library codes instr.SetIndex config = index_put library config
perform library codes (instr.Unpack count) config = unpacked_on count config
perform library codes (instr.For body) config = looped codes body config
perform library codes (instr.Within block) config = inwards codes block config
perform library codes instr.Collect config = collected config
perform library codes instr.CollectEntry config = entry_collected library config
perform library codes instr.Return config = given_back config
perform library codes instr.Break config = leaving exit.Break config
perform library codes instr.Continue config = leaving exit.Continue config
perform library codes (instr.AugmentName op hops slot) config =
    name_augmented library op hops slot config
perform library codes instr.Fetch config = fetched library config
perform library codes (instr.AugmentIndex op) config = index_augmented library op config
perform library codes instr.NotAssignable config = faults fault.Kind config
