pub mod Searches
pub mod Spaced
pub mod Found
