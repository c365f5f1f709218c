-- What a reader of a module file keeps: all that it has read is as what a file declares is to be.
use Rattle.std.specs.Prelude.{◌≡◌, false, [], Ok, Err, ⊤}
use Rattle.bz_base.specs.ModuleDeclarations.{IsRootDeclared}
use Rattle.module_directives.specs.Outcomes.{Outcome}
use Rattle.module_directives.specs.Readers.{declared_by}
use Rattle.module_directives.specs.declared.readers.Reader.{Reader}
use Rattle.module_host.specs.declared.hosts.ModuleHost.{ModuleHost}
use Rattle.star_core.specs.Hosts.{Asks, Lacks, Refuses, Reply, Returns}

-- What was read so far is declared well, and before the first directive nothing is overridden.
pub record IsKept (reader : Reader) : Type 0 where
  pub declared : IsRootDeclared (declared_by reader)
  pub nothing_overridden : reader.begun ≡ false → reader.overrides ≡ []

-- a directive that isn't refused keeps it
abbrev pub KeptBy : Outcome → Type 0
KeptBy (Ok outcome) = IsKept outcome.1
KeptBy (Err reason) = ⊤

-- and so does a reply
abbrev pub KeptByReply : Reply ModuleHost → Type 0
KeptByReply (Returns value heap host) = IsKept host.reader
KeptByReply (Refuses refusal) = ⊤
KeptByReply (Asks question) = ⊤
KeptByReply Lacks = ⊤
