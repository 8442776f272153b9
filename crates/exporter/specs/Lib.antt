pub mod Settings
pub mod Promise
