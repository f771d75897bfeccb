-- Statements about tracing that need names.
pub mod Marks
pub mod Refused
