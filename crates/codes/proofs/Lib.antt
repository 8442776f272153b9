pub mod Machine
pub mod Lent
pub mod Bytes
pub mod Faults
pub mod Numbered
pub mod Refusals
pub mod Numbers
pub mod LimitsNow
