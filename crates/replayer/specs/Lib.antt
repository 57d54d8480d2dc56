pub mod Guest
pub mod Replays
