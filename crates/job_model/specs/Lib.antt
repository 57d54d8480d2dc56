pub mod Job
pub mod Text
