pub mod HeadingFit
pub mod FileShort
pub mod ReadsBack
pub mod ImportedAlike
