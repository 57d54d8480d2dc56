pub mod AnnouncementLaws
pub mod RecordLaws
pub mod SequenceLaws
