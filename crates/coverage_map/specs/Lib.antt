pub mod Coverage
pub mod Executed
pub mod Places
