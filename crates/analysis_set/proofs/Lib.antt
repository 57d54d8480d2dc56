pub mod GuestLaws
pub mod LineLaws
mod PartLaws
