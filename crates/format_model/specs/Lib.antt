pub mod Script
pub mod Then
pub mod ScriptReading
pub mod ImageFile
