pub mod Alike
pub mod Kinds
pub mod Text
pub mod Utf8
