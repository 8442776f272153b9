pub mod Keyed
pub mod KeyParts
pub mod Lines
pub mod Remembered
