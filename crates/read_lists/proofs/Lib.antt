pub mod Another
pub mod Judge
pub mod Judged
pub mod Refusals
