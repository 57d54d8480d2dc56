pub mod DiskLaws
pub mod DueLaws
pub mod EntryLaws
pub mod FollowLaws
pub mod SendLaws
pub mod StandLaws
pub mod TimeLaws
