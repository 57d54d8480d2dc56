pub mod Beginnings
pub mod Closings
pub mod Jobs
pub mod Openings
pub mod Replicas
pub mod Verdicts
