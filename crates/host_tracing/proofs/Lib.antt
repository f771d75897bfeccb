-- What holds of the definitions.
pub mod Given
pub mod Laying
pub mod Told
