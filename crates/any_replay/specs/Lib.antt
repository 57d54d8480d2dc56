pub mod Standing
pub mod Replays
pub mod Taking
