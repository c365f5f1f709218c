-- Which instructions may call a host, and which object answers.
use Rattle.std.specs.Prelude.{ℕ, List, [], Option, Some, None, reverse, slice_get}
use Rattle.star_code.specs.declared.code.Code.{Code}
use Rattle.star_code.specs.declared.code.Instr.{Instr}
use Rattle.star_code.specs.declared.code.Instr.TheVariants as instr
use Rattle.star_core.specs.Heaps.{HeapState, cell_at}
use Rattle.star_core.specs.Stacks.{taken}
use Rattle.star_core.specs.declared.cells.Cell.{Cell}
use Rattle.star_core.specs.declared.cells.Cell.TheVariants as cell
use Rattle.star_core.specs.declared.values.Val.{Val}
use Rattle.star_core.specs.declared.values.Val.TheVariants as val
use Rattle.star_machine.specs.Configs.{Config}
use Rattle.star_machine.specs.Steps.{name_of}
use Rattle.star_runs.specs.Runs.{Wanted, attribute_wanted, call_wanted, callee_wanted}
use Rattle.star_turn.specs.declared.asking.Asking.{Asking}
use Rattle.star_turn.specs.declared.asking.Asking.TheVariants as asking

-- a field is looked at by `Attr`, and a method is called by `Call` or `CallGathered`
abbrev pub asking_of : Instr → Asking
asking_of (instr.Attr index) = asking.Field index
asking_of (instr.Call count) = asking.Method count
asking_of instr.CallGathered = asking.Gathered
asking_of (instr.Begin line) = asking.Never
asking_of instr.Tick = asking.Never
asking_of (instr.Constant value) = asking.Never
asking_of (instr.Push value) = asking.Never
asking_of (instr.Name hops slot) = asking.Never
asking_of (instr.Set hops slot) = asking.Never
asking_of instr.Forget = asking.Never
asking_of (instr.List count) = asking.Never
asking_of (instr.Tuple count) = asking.Never
asking_of instr.Dict = asking.Never
asking_of instr.Entry = asking.Never
asking_of (instr.Unary op) = asking.Never
asking_of (instr.Binary op) = asking.Never
asking_of (instr.Short wanted block) = asking.Never
asking_of (instr.If chosen other) = asking.Never
asking_of (instr.Defaults function) = asking.Never
asking_of (instr.Def function) = asking.Never
asking_of instr.CheckItems = asking.Never
asking_of instr.CheckKeywords = asking.Never
asking_of (instr.Gather shape) = asking.Never
asking_of (instr.Within block) = asking.Never
asking_of instr.Collect = asking.Never
asking_of instr.CollectEntry = asking.Never
asking_of instr.Index = asking.Never
asking_of instr.Slice = asking.Never
asking_of instr.SetIndex = asking.Never
asking_of (instr.Unpack count) = asking.Never
asking_of (instr.For body) = asking.Never
asking_of instr.Return = asking.Never
asking_of instr.Break = asking.Never
asking_of instr.Continue = asking.Never
asking_of (instr.AugmentName op hops slot) = asking.Never
asking_of instr.Fetch = asking.Never
asking_of (instr.AugmentIndex op) = asking.Never
asking_of instr.NotAssignable = asking.Never

-- the call of a host that such an instruction makes
abbrev pub wanted_by : List Code → Asking → Config → Wanted
wanted_by codes asking.Never config = None
wanted_by codes (asking.Field index) config =
    attribute_wanted (name_of codes config.file index) config
wanted_by codes (asking.Method count) config = call_wanted (taken count [] config.stack) config
wanted_by codes asking.Gathered config = callee_wanted config.gathered config.stack config

-- the value before so many last ones
abbrev pub before_last : ℕ → List Val → Option Val
before_last count values = slice_get (reverse values) count

-- an object of the host and a path have numbers by which they answer for themselves
abbrev pub object_in : ℕ → Option Cell → Option ℕ
object_in number (Some (cell.Host kind fields)) = Some number
object_in number (Some (cell.Path repo segments)) = Some number
object_in number (Some (cell.Struct fields)) = None
object_in number (Some (cell.Text text)) = None
object_in number (Some (cell.List items)) = None
object_in number (Some (cell.Dict entries)) = None
object_in number (Some (cell.Tuple items)) = None
object_in number (Some (cell.Range first stop step)) = None
object_in number (Some (cell.Function function)) = None
object_in number (Some (cell.Builtin builtin)) = None
object_in number (Some (cell.Bound receiver method)) = None
object_in number (Some (cell.Label label)) = None
object_in number None = None

abbrev pub object_of : HeapState → Val → Option ℕ
object_of heap val.None = None
object_of heap (val.Bool flag) = None
object_of heap (val.Int number) = None
object_of heap (val.Cell number) = object_in number (cell_at heap (val.Cell number))

-- an object of the host is called itself, and a method of an object or a path by its receiver
abbrev pub called_in : HeapState → ℕ → Option Cell → Option ℕ
called_in heap number (Some (cell.Host kind fields)) = Some number
called_in heap number (Some (cell.Bound receiver method)) = object_of heap receiver
called_in heap number (Some (cell.Path repo segments)) = None
called_in heap number (Some (cell.Struct fields)) = None
called_in heap number (Some (cell.Text text)) = None
called_in heap number (Some (cell.List items)) = None
called_in heap number (Some (cell.Dict entries)) = None
called_in heap number (Some (cell.Tuple items)) = None
called_in heap number (Some (cell.Range first stop step)) = None
called_in heap number (Some (cell.Function function)) = None
called_in heap number (Some (cell.Builtin builtin)) = None
called_in heap number (Some (cell.Label label)) = None
called_in heap number None = None

abbrev pub called_object : HeapState → Val → Option ℕ
called_object heap val.None = None
called_object heap (val.Bool flag) = None
called_object heap (val.Int number) = None
called_object heap (val.Cell number) = called_in heap number (cell_at heap (val.Cell number))

-- the name of a bound method; an object itself is called without a name
abbrev pub called_method : Option Cell → List ℕ
called_method (Some (cell.Bound receiver method)) = method
called_method (Some (cell.Host kind fields)) = []
called_method (Some (cell.Path repo segments)) = []
called_method (Some (cell.Struct fields)) = []
called_method (Some (cell.Text text)) = []
called_method (Some (cell.List items)) = []
called_method (Some (cell.Dict entries)) = []
called_method (Some (cell.Tuple items)) = []
called_method (Some (cell.Range first stop step)) = []
called_method (Some (cell.Function function)) = []
called_method (Some (cell.Builtin builtin)) = []
called_method (Some (cell.Label label)) = []
called_method None = []
