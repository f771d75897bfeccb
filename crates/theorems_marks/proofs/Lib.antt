-- What holds of a tracing.
pub mod Sent
pub mod Limit
pub mod Itself
pub mod Marks
pub mod Early
pub mod Refused
pub mod Only
