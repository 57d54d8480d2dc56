mod Examples
pub mod LaterShown
pub mod RunLaws
pub mod SayingLaws
pub mod VerdictLaws
