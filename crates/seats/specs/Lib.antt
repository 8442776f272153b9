pub mod Ordered
pub mod Outside
pub mod Seats
