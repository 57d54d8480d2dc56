pub mod Faults
pub mod Files
pub mod Given
pub mod Read
