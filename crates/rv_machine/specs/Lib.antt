pub mod Phase
pub mod ToCome
