pub mod Merging
pub mod Permutations
pub mod Tests
pub mod ValuesSorted
