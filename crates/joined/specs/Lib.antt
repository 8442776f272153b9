pub mod Join
pub mod Shortcuts
pub mod Room
pub mod Roots
pub mod Order
