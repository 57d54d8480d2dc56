pub mod Access
pub mod Announcement
pub mod Event
pub mod Record
pub mod Sequence
pub mod Words
