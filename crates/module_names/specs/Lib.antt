pub mod ExportedNames
