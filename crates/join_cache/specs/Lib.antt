pub mod Keys
pub mod Cache
