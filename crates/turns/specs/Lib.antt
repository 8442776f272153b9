pub mod Wide
pub mod Turn
