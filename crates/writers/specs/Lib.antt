pub mod Decimal
pub mod Words
pub mod Written
pub mod Binary
pub mod Examples
