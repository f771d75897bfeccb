-- What holds of the definitions.
pub mod Sights
pub mod Written
