pub mod LevelSeats
pub mod SupportLevels
