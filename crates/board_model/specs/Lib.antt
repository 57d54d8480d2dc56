pub mod Guest
pub mod TheBoard
