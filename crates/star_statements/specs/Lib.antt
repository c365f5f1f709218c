pub mod NestsStatements
pub mod Parsed
pub mod Remainders
pub mod Slices
