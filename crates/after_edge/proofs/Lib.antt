pub mod FaultLaws
pub mod MemoryFilesLaws
pub mod MemorySinkLaws
pub mod ReadLaws
pub mod SinkLaws
