-- Whatever an evaluation calls, its host stays good.
use Rattle.std.proofs.Common.{ℕ, List, Option, Some, None, Ok, Err}
use Rattle.std.proofs.lemmas.Bool.{cond_both}
use Rattle.bz_base.specs.Names.{is_identifier}
use Rattle.module_arguments.specs.GivenValues.{is_empty}
use Rattle.module_arguments.specs.declared.objects.Object.{Object}
use Rattle.module_arguments.specs.declared.objects.Object.TheVariants as object
use Rattle.module_directives.specs.Outcomes.{Outcome}
use Rattle.module_directives.specs.declared.readers.Reader.{Reader}
use Rattle.module_host.specs.Meaning.{cell_reply, field_reply, gift_cell, made_reply}
use Rattle.module_host.specs.Meaning.{module_meaning}
use Rattle.module_host.specs.Meaning.{object_at, object_outcome, outcome_reply}
use Rattle.module_host.specs.declared.hosts.ModuleHost.{ModuleHost}
use Rattle.module_laws.proofs.KeptRows.{directive_keeps, repository_row_keeps, tag_row_keeps}
use Rattle.module_laws.specs.Kept.{IsKept, KeptBy, KeptByReply}
use Rattle.star_core.specs.Heaps.{Change, HeapState, made}
use Rattle.star_core.specs.Hosts.{Field, HostCall, Method}
use Rattle.star_core.specs.Tables.{Table}
use Rattle.star_core.specs.declared.cells.Cell.{Cell}
use Rattle.star_core.specs.declared.cells.Cell.TheVariants as cell
use Rattle.star_core.specs.declared.values.Args.{Args}
use Rattle.star_core.specs.declared.values.Val.{Val}
use Rattle.star_core.specs.declared.values.Val.TheVariants as val
use Rattle.std.specs.Prelude.{⊤}

abbrev KeptByOption : Option Outcome → Type 0
KeptByOption None = ⊤
KeptByOption (Some outcome) = KeptBy outcome

object_keeps : (found : Option Object) (name : List ℕ) (args : Args) (line : ℕ) (heap : HeapState)
    (reader : Reader)
    → IsKept reader
    → KeptByOption (object_outcome found name args line heap reader)
object_keeps None name args line heap reader kept = tt
object_keeps (Some (object.Named directive)) name args line heap reader kept =
    cond_both (is_empty name) _ _ KeptByOption
    (λ _. directive_keeps directive heap args line reader kept) (λ _. tt)
object_keeps (Some (object.Rule index)) name args line heap reader kept =
    cond_both (is_empty name) _ _ KeptByOption
    (λ _. repository_row_keeps index heap args line reader kept) (λ _. tt)
object_keeps (Some (object.Proxy usage)) name args line heap reader kept =
    cond_both (is_empty name) _ _ KeptByOption (λ _. tt)
    (λ _. cond_both (is_identifier name) _ _ KeptByOption
    (λ named. tag_row_keeps usage name heap args line reader named kept) (λ _. tt))

made_keeps : (change : Change Val) (line : ℕ) (host : ModuleHost)
    → IsKept host.reader
    → KeptByReply (made_reply change line host)
made_keeps (Ok change) line host kept = kept
made_keeps (Err fault) line host kept = tt

cell_keeps : (new : Option Cell) (heap : HeapState) (line : ℕ) (host : ModuleHost)
    → IsKept host.reader
    → KeptByReply (cell_reply new heap line host)
cell_keeps None heap line host kept = kept
cell_keeps (Some new) heap line host kept = made_keeps (made new heap) line host kept

outcome_keeps : (outcome : Option Outcome) (heap : HeapState) (line : ℕ) (host : ModuleHost)
    → KeptByOption outcome
    → KeptByReply (outcome_reply outcome heap line host)
outcome_keeps None heap line host kept = tt
outcome_keeps (Some (Err reason)) heap line host kept = tt
outcome_keeps (Some (Ok outcome)) heap line host kept =
    cell_keeps (gift_cell outcome.0) heap line (record host { reader = outcome.1 }) kept

field_keeps : (found : Option Object) (number : ℕ) (name : List ℕ) (heap : HeapState)
    (host : ModuleHost)
    → IsKept host.reader
    → KeptByReply (field_reply found number name heap host)
field_keeps None number name heap host kept = tt
field_keeps (Some (object.Named directive)) number name heap host kept = tt
field_keeps (Some (object.Rule index)) number name heap host kept = tt
field_keeps (Some (object.Proxy usage)) number name heap host kept =
    cond_both (is_identifier name) _ _ KeptByReply
    (λ _. made_keeps (made (cell.Bound (val.Cell number) name) heap) 0 host kept) (λ _. tt)

pub calls_keep : (host : ModuleHost) (heap : HeapState) (call : HostCall) (table : Table)
    → IsKept host.reader
    → KeptByReply (module_meaning host heap call table)
calls_keep host heap (Method number name args line) table kept =
    outcome_keeps (object_outcome (object_at heap number) name args line heap host.reader) heap line
    host (object_keeps (object_at heap number) name args line heap host.reader kept)
calls_keep host heap (Field number name) table kept =
    field_keeps (object_at heap number) number name heap host kept
