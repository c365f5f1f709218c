pub mod CopiedEntries
pub mod Parts
pub mod Repeated
pub mod UnitedEntries
