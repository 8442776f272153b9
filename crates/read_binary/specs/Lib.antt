pub mod Binary
pub mod Groups
