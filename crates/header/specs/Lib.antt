pub mod Header
pub mod HeaderSaid
pub mod Kinds
pub mod Promises
pub mod Examples
