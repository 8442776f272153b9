pub mod Tests
pub mod ReadBack
pub mod Reading
pub mod Slotted
