pub mod Board
pub mod Image
pub mod Script
