-- What is said of whole tracings.
pub mod Sums
pub mod Room
pub mod Dropped
