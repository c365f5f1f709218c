pub mod LibraryCalls
pub mod Standards
