pub mod Device
pub mod Halves
pub mod Ram
