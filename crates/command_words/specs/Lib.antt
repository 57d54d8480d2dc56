pub mod Table
pub mod Values
pub mod Roles
pub mod Drafts
pub mod Jobs
pub mod Says
pub mod Sound
