pub mod Accepted
pub mod Answered
pub mod Bare
pub mod FileParts
pub mod Prepared
pub mod Grown
