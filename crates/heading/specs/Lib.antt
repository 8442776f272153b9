pub mod Examples
pub mod Heading
pub mod Lines
pub mod Small
pub mod Tables
