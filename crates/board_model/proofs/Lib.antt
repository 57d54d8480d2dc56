mod DiskExample
mod GuestExamples
pub mod SoundBoard
