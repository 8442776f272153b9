pub mod Knowing
pub mod Finding
pub mod Inserting
