pub mod Calling
pub mod Settling
pub mod Tests
