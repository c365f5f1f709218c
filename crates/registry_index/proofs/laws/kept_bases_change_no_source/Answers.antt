use Rattle.registry_index.proofs.KeptDirectories.{kept_bases-answer, kept_bases-left}
use Rattle.registry_index.proofs.laws.kept_bases_change_no_source.Goals as goal

pub returns-clause-answer : goal.returns-clause-answer
returns-clause-answer c = kept_bases-answer

pub returns-clause-kept : goal.returns-clause-kept
returns-clause-kept c = kept_bases-left
