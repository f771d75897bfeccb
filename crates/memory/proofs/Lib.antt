-- What holds of the definitions.
pub mod Rows
pub mod Lengths
pub mod Records
pub mod Keeps
pub mod Listed
pub mod Plain
pub mod Views
pub mod Booked
