use Rattle.registry_index.proofs.RegistryForms.{is_registry-IsRegistry}
use Rattle.registry_index.proofs.laws.registries_are_those_of_module_files.Goals as goal

pub returns : goal.returns
returns c = is_registry-IsRegistry
