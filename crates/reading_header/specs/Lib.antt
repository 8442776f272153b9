pub mod Joined
pub mod Standing
pub mod Spans
pub mod HeadWords
pub mod HeaderBack
pub mod ValuesBack
