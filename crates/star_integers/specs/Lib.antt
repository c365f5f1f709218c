pub mod Spellings
