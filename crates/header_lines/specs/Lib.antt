pub mod Kinds
pub mod Last
pub mod SoundLines
pub mod Sweep
