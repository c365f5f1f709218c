pub mod NameEnds
