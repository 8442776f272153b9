pub mod Ordering
pub mod Permutation
