pub mod Calm
pub mod Held
pub mod Marked
pub mod Marks
