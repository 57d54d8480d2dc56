mod BoardExamples
pub mod BoardLaws
