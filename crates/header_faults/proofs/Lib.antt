pub mod Faults
pub mod SoundValues
