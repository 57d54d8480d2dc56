pub mod Least
pub mod Prefix
