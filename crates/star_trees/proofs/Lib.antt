pub mod Assignable
pub mod Folds
