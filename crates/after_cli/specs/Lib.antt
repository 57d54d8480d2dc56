pub mod Asked
pub mod Ends
pub mod Exact
pub mod JobEnds
pub mod Means
