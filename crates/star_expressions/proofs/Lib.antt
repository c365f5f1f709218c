pub mod ItemTests
pub mod Loosest
pub mod NameLists
