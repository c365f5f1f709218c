pub mod ExtensionFiles
pub mod Forms
pub mod ModuleFiles
