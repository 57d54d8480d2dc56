pub mod AllLaws
pub mod LeastLaws
pub mod OptionLaws
pub mod PlaceLaws
pub mod PrefixLaws
pub mod ReverseLaws
