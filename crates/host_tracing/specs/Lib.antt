-- What the entries for hosts answer and leave.
pub mod Tracing
pub mod Flat
