pub mod ContextLaws
pub mod CoverLaws
pub mod FindingLaws
pub mod HeapLaws
pub mod LookLaws
pub mod MadeLaws
mod Rows
pub mod TaintLaws
