pub mod Built
pub mod Mixed
pub mod More
pub mod Seeking
pub mod Widths
