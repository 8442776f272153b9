pub mod LevelRules
pub mod Levels
