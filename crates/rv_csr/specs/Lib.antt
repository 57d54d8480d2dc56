pub mod Csrs
pub mod Table
pub mod Traps
