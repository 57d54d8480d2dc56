pub mod Batch
pub mod Midway
pub mod Plain
pub mod PlainRun
pub mod Sized
pub mod Sound
pub mod Told
