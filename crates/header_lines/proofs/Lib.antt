pub mod Entries
pub mod HeaderEnd
pub mod LastLines
pub mod Lasts
pub mod Lines
pub mod Progress
pub mod Tables
