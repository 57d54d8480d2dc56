pub mod What
pub mod Lines
pub mod Reads
