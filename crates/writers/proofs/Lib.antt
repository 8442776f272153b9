pub mod Sets
pub mod Notation
pub mod Decimal
pub mod Escaped
pub mod SevenBit
pub mod Examples
