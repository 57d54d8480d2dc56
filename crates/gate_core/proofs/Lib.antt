pub mod CoreLaws
pub mod FinishLaws
pub mod FollowLaws
pub mod HubLaws
pub mod LaterLaws
pub mod RestLaws
