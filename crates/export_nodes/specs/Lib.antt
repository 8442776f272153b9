pub mod Lines
pub mod Tables
pub mod Exported
pub mod Examples
