pub mod Fault
pub mod Files
pub mod Host
pub mod MemoryFiles
pub mod MemorySink
pub mod Reading
pub mod Sink
