-- The host of a module file keeps the laws of a host. It asks nothing.
use Rattle.std.proofs.Common.{◌≡◌, ℕ, ◌<◌, List, Bool, true, false, length, Option, Some, None}
use Rattle.std.proofs.Common.{Ok, Err, refl, sym, subst, if◌then◌else◌}
use Rattle.std.proofs.Math.Seq.{take-append_seam, take-length}
use Rattle.std.proofs.Math.Numerals.{lt-add-one}
use Rattle.std.proofs.lemmas.List.{length-append}
use Rattle.bz_base.specs.Names.{is_identifier}
use Rattle.module_arguments.specs.declared.objects.Object.{Object}
use Rattle.module_arguments.specs.declared.objects.Object.TheVariants as object
use Rattle.module_directives.specs.Outcomes.{Outcome}
use Rattle.module_host.specs.Meaning.{cell_reply, field_reply, gift_cell, made_reply}
use Rattle.module_host.specs.Meaning.{module_meaning}
use Rattle.module_host.specs.Meaning.{object_at, object_outcome, outcome_reply}
use Rattle.module_host.specs.declared.hosts.ModuleHost.{ModuleHost}
use Rattle.star_core.specs.Heaps.{Change, HeapState, made, made_with, sum_for}
use Rattle.star_core.specs.Hosts.{AsksAnew, Field, HostCall, IsLawful, IsNoQuestion, KeepsCells}
use Rattle.star_core.specs.Hosts.{Lacks, Method, ReturnsWell}
use Rattle.star_core.specs.Sizes.{size_of}
use Rattle.star_core.specs.Tables.{Table, Within}
use Rattle.star_core.specs.declared.cells.Cell.{Cell}
use Rattle.star_core.specs.declared.cells.Cell.TheVariants as cell
use Rattle.star_core.specs.declared.values.Val.{Val}
use Rattle.star_core.specs.declared.values.Val.TheVariants as val

keeps_itself : (heap : HeapState) → KeepsCells heap heap
keeps_itself heap = record { cells = take-length heap.cells; frozen = refl }

made_returns : (new : Cell) (sum : Option ℕ) (heap : HeapState) (line : ℕ) (host : ModuleHost)
    → ReturnsWell heap (made_reply (made_with new sum heap) line host)
made_returns new None heap line host = tt
made_returns new (Some sum) heap line host = (
  record { cells = take-append_seam heap.cells _; frozen = refl },
  subst (λ n. length heap.cells < n) (sym (length-append heap.cells _))
      (lt-add-one (length heap.cells)),
)

cell_returns : (new : Option Cell) (heap : HeapState) (line : ℕ) (host : ModuleHost)
    → ReturnsWell heap (cell_reply new heap line host)
cell_returns None heap line host = (keeps_itself heap, tt)
cell_returns (Some new) heap line host =
    made_returns new (sum_for new (size_of new) heap) heap line host

outcome_returns : (outcome : Option Outcome) (heap : HeapState) (line : ℕ) (host : ModuleHost)
    → ReturnsWell heap (outcome_reply outcome heap line host)
outcome_returns None heap line host = tt
outcome_returns (Some (Err reason)) heap line host = tt
outcome_returns (Some (Ok outcome)) heap line host =
    cell_returns (gift_cell outcome.0) heap line (record host { reader = outcome.1 })

bound_if : (named : Bool) (number : ℕ) (name : List ℕ) (heap : HeapState) (host : ModuleHost)
    → ReturnsWell heap (if named
    then made_reply (made (cell.Bound (val.Cell number) name) heap) 0 host else Lacks)
bound_if false number name heap host = tt
bound_if true number name heap host =
    made_returns (cell.Bound (val.Cell number) name)
    (sum_for (cell.Bound (val.Cell number) name) (size_of (cell.Bound (val.Cell number) name)) heap)
    heap 0 host

field_returns : (found : Option Object) (number : ℕ) (name : List ℕ) (heap : HeapState)
    (host : ModuleHost)
    → ReturnsWell heap (field_reply found number name heap host)
field_returns None number name heap host = tt
field_returns (Some (object.Named directive)) number name heap host = tt
field_returns (Some (object.Rule index)) number name heap host = tt
field_returns (Some (object.Proxy usage)) number name heap host =
    bound_if (is_identifier name) number name heap host

returns_well : (host : ModuleHost) (heap : HeapState) (call : HostCall) (table : Table)
    → ReturnsWell heap (module_meaning host heap call table)
returns_well host heap (Method number name args line) table =
    outcome_returns (object_outcome (object_at heap number) name args line heap host.reader) heap
    line host
returns_well host heap (Field number name) table =
    field_returns (object_at heap number) number name heap host

made_asks : (change : Change Val) (line : ℕ) (host : ModuleHost) (table : Table)
    → AsksAnew table (made_reply change line host)
made_asks (Ok change) line host table = tt
made_asks (Err fault) line host table = tt

cell_asks : (new : Option Cell) (heap : HeapState) (line : ℕ) (host : ModuleHost) (table : Table)
    → AsksAnew table (cell_reply new heap line host)
cell_asks None heap line host table = tt
cell_asks (Some new) heap line host table = made_asks (made new heap) line host table

outcome_asks : (outcome : Option Outcome) (heap : HeapState) (line : ℕ) (host : ModuleHost)
    (table : Table)
    → AsksAnew table (outcome_reply outcome heap line host)
outcome_asks None heap line host table = tt
outcome_asks (Some (Err reason)) heap line host table = tt
outcome_asks (Some (Ok outcome)) heap line host table =
    cell_asks (gift_cell outcome.0) heap line (record host { reader = outcome.1 }) table

bound_asks : (named : Bool) (number : ℕ) (name : List ℕ) (heap : HeapState) (host : ModuleHost)
    (table : Table)
    → AsksAnew table (if named
    then made_reply (made (cell.Bound (val.Cell number) name) heap) 0 host else Lacks)
bound_asks false number name heap host table = tt
bound_asks true number name heap host table =
    made_asks (made (cell.Bound (val.Cell number) name) heap) 0 host table

field_asks : (found : Option Object) (number : ℕ) (name : List ℕ) (heap : HeapState)
    (host : ModuleHost) (table : Table)
    → AsksAnew table (field_reply found number name heap host)
field_asks None number name heap host table = tt
field_asks (Some (object.Named directive)) number name heap host table = tt
field_asks (Some (object.Rule index)) number name heap host table = tt
field_asks (Some (object.Proxy usage)) number name heap host table =
    bound_asks (is_identifier name) number name heap host table

asks_anew : (host : ModuleHost) (heap : HeapState) (call : HostCall) (table : Table)
    → AsksAnew table (module_meaning host heap call table)
asks_anew host heap (Method number name args line) table =
    outcome_asks (object_outcome (object_at heap number) name args line heap host.reader) heap line
    host table
asks_anew host heap (Field number name) table =
    field_asks (object_at heap number) number name heap host table

steady : (host : ModuleHost) (heap : HeapState) (call : HostCall) (less more : Table)
    → Within less more
    → IsNoQuestion (module_meaning host heap call less)
    → module_meaning host heap call more ≡ module_meaning host heap call less
steady host heap (Method number name args line) less more within no_question = refl
steady host heap (Field number name) less more within no_question = refl

pub module_lawful : IsLawful module_meaning
module_lawful = record { asks_anew = asks_anew; steady = steady; returns_well = returns_well }
