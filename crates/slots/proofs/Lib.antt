pub mod Placed
pub mod MostNodes
