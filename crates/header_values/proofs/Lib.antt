pub mod Counted
pub mod Filled
pub mod Fronts
pub mod Padded
pub mod Single
pub mod Spanned
pub mod ValuesSaid
