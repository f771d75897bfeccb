-- Document 01, module 1.
pub mod Doubles
pub mod Root
pub mod Guess
