-- What holds of the definitions.
pub mod Quiet
pub mod Places
pub mod Steps
