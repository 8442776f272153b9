pub mod Judge
pub mod Sound
