pub mod Places
pub mod Shade
