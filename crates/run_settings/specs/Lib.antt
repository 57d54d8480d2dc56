pub mod Kinds
pub mod KindPlaces
pub mod Patterns
