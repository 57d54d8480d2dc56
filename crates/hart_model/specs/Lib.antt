pub mod Aligned
pub mod Effect
pub mod Fetch
pub mod Machine
pub mod Needs
pub mod Operations
pub mod State
pub mod Step
