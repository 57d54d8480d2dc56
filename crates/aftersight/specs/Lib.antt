pub mod Help
pub mod Texts
