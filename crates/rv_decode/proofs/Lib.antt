pub mod ApartLaws
pub mod FieldLaws
pub mod ListingLaws
pub mod ReadingLaws
pub mod RowLaws
pub mod SpellingLaws
