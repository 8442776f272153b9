pub mod Judged
pub mod Lists
