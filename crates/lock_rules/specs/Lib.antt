pub mod Entries
pub mod Lesser
pub mod Shaded
pub mod State
