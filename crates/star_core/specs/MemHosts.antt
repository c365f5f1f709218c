-- The host in memory: what its calls do.
use Rattle.std.specs.Prelude.{ℕ, ◌+◌, min, Option, Some, None, Ok, Err, pos, codes}
use Rattle.std.specs.Prelude.{bytes_eq, if◌then◌else◌}
use Rattle.bz_base.specs.Refusals.{refusal_of}
use Rattle.bz_base.specs.declared.refusals.Code.TheVariants.{Size}
use Rattle.star_core.specs.Heaps.{Change, HeapState, made}
use Rattle.star_core.specs.Hosts.{Asks, Field, HostCall, Meaning, Method, Refuses, Reply, Returns}
use Rattle.star_core.specs.Tables.{Table, answer_in}
use Rattle.star_core.specs.declared.cells.Cell.TheVariants as cell
use Rattle.star_core.specs.declared.mem_host.MemHost.{MemHost}
use Rattle.star_core.specs.declared.questions.Answer.{Answer}
use Rattle.star_core.specs.declared.questions.Answer.TheVariants as answer
use Rattle.star_core.specs.declared.questions.Question.TheVariants as question
use Rattle.star_core.specs.declared.values.Val.{Val}
use Rattle.star_core.specs.declared.values.Val.TheVariants as val

-- the count after one more call, which stays at 2^32 - 1
abbrev pub calls_after : MemHost → ℕ
calls_after host = min (host.calls + 1) 4294967295

-- a call of `count` gives how many there were, this one among them
abbrev pub counted_call : MemHost → HeapState → Reply MemHost
counted_call host heap =
    Returns (val.Int (pos (calls_after host))) heap (record { calls = calls_after host })

-- a text is given in a cell of its own, unless sizes become too large
abbrev pub given_text : Change Val → MemHost → Reply MemHost
given_text (Ok change) host = Returns change.0 change.1 host
given_text (Err fault) host = Refuses (refusal_of Size)

abbrev pub told_name : Option Answer → MemHost → HeapState → Reply MemHost
told_name None host heap = Asks question.OsName
told_name (Some (answer.Text text)) host heap = given_text (made (cell.Text text) heap) host
told_name (Some (answer.Bytes bytes)) host heap = Returns val.None heap host
told_name (Some answer.Large) host heap = Returns val.None heap host
told_name (Some (answer.Names names)) host heap = Returns val.None heap host
told_name (Some answer.Absent) host heap = Returns val.None heap host
told_name (Some answer.Nothing) host heap = Returns val.None heap host

-- the system's name, which is asked where the table lacks it
abbrev pub system_name : MemHost → HeapState → Table → Reply MemHost
system_name host heap table = told_name (answer_in table question.OsName) host heap

abbrev pub mem_meaning : Meaning MemHost HostCall
mem_meaning host heap (Method object name args line) table =
    if bytes_eq name (codes "count") then counted_call host heap else system_name host heap table
mem_meaning host heap (Field object name) table = system_name host heap table
