pub mod Core
pub mod Follow
pub mod Hub
