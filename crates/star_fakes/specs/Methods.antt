-- The host with methods: what its calls do.
use Rattle.std.specs.Prelude.{ℕ, ◌+◌, min, Option, Some, None, Ok, Err, pos, codes}
use Rattle.std.specs.Prelude.{bytes_eq, if◌then◌else◌}
use Rattle.bz_base.specs.Refusals.{refusal_of}
use Rattle.bz_base.specs.declared.refusals.Code.TheVariants.{Size}
use Rattle.star_core.specs.Heaps.{Change, HeapState, made}
use Rattle.star_core.specs.Hosts.{Asks, Field, HostCall, Meaning, Method, Refuses, Reply, Returns}
use Rattle.star_core.specs.Tables.{Table, answer_in}
use Rattle.star_core.specs.declared.cells.Cell.TheVariants as cell
use Rattle.star_core.specs.declared.questions.Answer.{Answer}
use Rattle.star_core.specs.declared.questions.Answer.TheVariants as answer
use Rattle.star_core.specs.declared.questions.Question.{Question}
use Rattle.star_core.specs.declared.questions.Question.TheVariants as question
use Rattle.star_core.specs.declared.values.Val.{Val}
use Rattle.star_core.specs.declared.values.Val.TheVariants as val
use Rattle.star_fakes.specs.declared.method_host.MethodHost.{MethodHost}

-- the count after one more call, which stays at 2^32 - 1
abbrev pub calls_after : MethodHost → ℕ
calls_after host = min (host.calls + 1) 4294967295

-- a call of `count` gives how many there were, this one among them
abbrev pub counted_call : MethodHost → HeapState → Reply MethodHost
counted_call host heap =
    Returns (val.Int (pos (calls_after host))) heap (record { calls = calls_after host })

-- a new cell is given, unless sizes become too large
abbrev pub given : Change Val → MethodHost → Reply MethodHost
given (Ok change) host = Returns change.0 change.1 host
given (Err fault) host = Refuses (refusal_of Size)

abbrev pub the_variable : Question
the_variable = question.Env (codes "P")

abbrev pub told_text : Option Answer → MethodHost → HeapState → Reply MethodHost
told_text None host heap = Asks the_variable
told_text (Some (answer.Text text)) host heap = given (made (cell.Text text) heap) host
told_text (Some (answer.Bytes bytes)) host heap = Returns val.None heap host
told_text (Some answer.Large) host heap = Returns val.None heap host
told_text (Some (answer.Names names)) host heap = Returns val.None heap host
told_text (Some answer.Absent) host heap = Returns val.None heap host
told_text (Some answer.Nothing) host heap = Returns val.None heap host

-- the environment variable, which is asked where the table lacks it
abbrev pub variable_text : MethodHost → HeapState → Table → Reply MethodHost
variable_text host heap table = told_text (answer_in table the_variable) host heap

abbrev pub methods_meaning : Meaning MethodHost HostCall
methods_meaning host heap (Method object name args line) table =
    if bytes_eq name (codes "count") then counted_call host heap else variable_text host heap table
methods_meaning host heap (Field object name) table =
    given (made (cell.Bound (val.Cell object) name) heap) host
