pub mod KindLaws
pub mod PatternLaws
