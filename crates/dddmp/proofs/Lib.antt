pub mod Staged
pub mod Readable
pub mod Loading
mod Searched
