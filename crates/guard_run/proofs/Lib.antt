pub mod ClosingLaws
pub mod CourseLaws
pub mod OpeningLaws
pub mod OutputLaws
pub mod ReplicaLaws
pub mod ZipLaws
