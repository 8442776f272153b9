pub mod FitLists
pub mod FitNames
pub mod NameLists
pub mod NameReading
