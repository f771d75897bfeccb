-- What holds of the definitions.
pub mod Lists
pub mod Passed
