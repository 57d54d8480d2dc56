pub mod Fields
pub mod Listing
pub mod Links
pub mod Valid
pub mod Words
