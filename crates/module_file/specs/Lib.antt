pub mod LiteralForms
pub mod LiteralGrammar
pub mod LiteralLines
pub mod ModuleFiles
