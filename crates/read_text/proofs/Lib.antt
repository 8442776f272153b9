pub mod Alike
pub mod Encodings
pub mod NameLists
pub mod Refusals
pub mod Texts
