pub mod Alike
pub mod Free
pub mod Gathered
pub mod Likeness
pub mod NameExamples
pub mod Placed
pub mod RestInOrder
