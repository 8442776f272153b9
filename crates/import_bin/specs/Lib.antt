pub mod Bin
pub mod BinaryNumbers
pub mod Examples
pub mod Kinds
