-- What the objects of a module file do when an evaluation calls them: Bazel, "MODULE.bazel files".
use Rattle.std.specs.Prelude.{ℕ, pos, List, [], ◌∷◌, Option, Some, None, Ok, Err}
use Rattle.std.specs.Prelude.{codes}
use Rattle.std.specs.Prelude.{if◌then◌else◌}
use Rattle.bz_base.specs.Names.{is_identifier}
use Rattle.bz_base.specs.declared.refusals.Code.TheVariants as code
use Rattle.module_arguments.specs.GivenValues.{is_empty}
use Rattle.module_arguments.specs.Objections.{objection}
use Rattle.module_arguments.specs.Objects.{object_in, proxy_kind, rule_kind}
use Rattle.module_arguments.specs.declared.objections.Objection.{Objection}
use Rattle.module_arguments.specs.declared.objects.Object.{Object}
use Rattle.module_arguments.specs.declared.objects.Object.TheVariants as object
use Rattle.module_directives.specs.Directives.{directive_row, repository_row, tag_row}
use Rattle.module_directives.specs.Outcomes.{Outcome, refused_at}
use Rattle.module_directives.specs.Readers.{begun_reader}
use Rattle.module_directives.specs.declared.gifts.Gift.{Gift}
use Rattle.module_directives.specs.declared.gifts.Gift.TheVariants as gift
use Rattle.module_directives.specs.declared.readers.Reader.{Reader}
use Rattle.module_directives.specs.declared.readers.Role.{Role}
use Rattle.module_host.specs.declared.hosts.ModuleHost.{ModuleHost}
use Rattle.star_core.specs.Heaps.{Change, HeapState, cell_at, made}
use Rattle.star_core.specs.Hosts.{Field, HostCall, Lacks, Meaning, Method, Refuses, Reply, Returns}
use Rattle.star_core.specs.declared.cells.Cell.{Cell}
use Rattle.star_core.specs.declared.cells.Cell.TheVariants as cell
use Rattle.star_core.specs.declared.values.Args.{Args}
use Rattle.star_core.specs.declared.values.NamedVal.{NamedVal}
use Rattle.star_core.specs.declared.values.Val.{Val}
use Rattle.star_core.specs.declared.values.Val.TheVariants as val

-- a host before the first directive of a file
abbrev pub begun_host : List ℕ → Role → ModuleHost
begun_host file as_role = record { file = file; reader = begun_reader as_role }

-- what can't be called
abbrev pub not_called : Objection
not_called = objection code.Fault (codes "type")

-- a new object is too large
abbrev pub too_large : Objection
too_large = objection code.Size []

-- what calling a directive does, a tag class of an extension, or a repository rule; None where the
-- object has no such method
abbrev pub object_outcome : Option Object
    → List ℕ
    → Args
    → ℕ
    → HeapState
    → Reader
    → Option Outcome
object_outcome None name args line heap reader = None
object_outcome (Some (object.Named directive)) name args line heap reader =
    if is_empty name then Some (directive_row directive heap args line reader) else None
object_outcome (Some (object.Proxy usage)) name args line heap reader =
    if is_empty name then Some (Err not_called)
    else (if is_identifier name then Some (tag_row usage name heap args line reader) else None)
object_outcome (Some (object.Rule index)) name args line heap reader =
    if is_empty name then Some (repository_row index heap args line reader) else None

-- the field with an object's number
abbrev pub numbered : ℕ → List NamedVal
numbered number = record { name = codes "number"; val = val.Int (pos number) } ∷ []

-- the cell that a directive gives
abbrev pub gift_cell : Gift → Option Cell
gift_cell gift.Nothing = None
gift_cell (gift.Proxy None) = Some (cell.Host proxy_kind [])
gift_cell (gift.Proxy (Some usage)) = Some (cell.Host proxy_kind (numbered usage))
gift_cell (gift.Rule index) = Some (cell.Host rule_kind (numbered index))

-- a new cell, unless sizes become too large
abbrev pub made_reply : Change Val → ℕ → ModuleHost → Reply ModuleHost
made_reply (Ok change) line host = Returns change.0 change.1 host
made_reply (Err fault) line host = Refuses (refused_at host.file line too_large)

abbrev pub cell_reply : Option Cell → HeapState → ℕ → ModuleHost → Reply ModuleHost
cell_reply None heap line host = Returns val.None heap host
cell_reply (Some new) heap line host = made_reply (made new heap) line host

-- what a host replies to a call
abbrev pub outcome_reply : Option Outcome → HeapState → ℕ → ModuleHost → Reply ModuleHost
outcome_reply None heap line host = Lacks
outcome_reply (Some (Err reason)) heap line host = Refuses (refused_at host.file line reason)
outcome_reply (Some (Ok outcome)) heap line host =
    cell_reply (gift_cell outcome.0) heap line (record host { reader = outcome.1 })

-- a tag class is a method of an extension's proxy; no other object has attributes
abbrev pub field_reply : Option Object → ℕ → List ℕ → HeapState → ModuleHost → Reply ModuleHost
field_reply None number name heap host = Lacks
field_reply (Some (object.Named directive)) number name heap host = Lacks
field_reply (Some (object.Rule index)) number name heap host = Lacks
field_reply (Some (object.Proxy usage)) number name heap host =
    if is_identifier name
    then made_reply (made (cell.Bound (val.Cell number) name) heap) 0 host
    else Lacks

-- the object with a number
abbrev pub object_at : HeapState → ℕ → Option Object
object_at heap number = object_in (cell_at heap (val.Cell number))

abbrev pub module_meaning : Meaning ModuleHost HostCall
module_meaning host heap (Method number name args line) table =
    outcome_reply (object_outcome (object_at heap number) name args line heap host.reader) heap line
    host
module_meaning host heap (Field number name) table =
    field_reply (object_at heap number) number name heap host
