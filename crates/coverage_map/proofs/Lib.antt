mod AreaLaws
mod AscendingLaws
pub mod ExecutedLaws
mod KnownLaws
mod MarkLaws
mod PlaceLaws
mod RangeLaws
pub mod StandsLaws
