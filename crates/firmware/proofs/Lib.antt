pub mod Exported
pub mod Handed
