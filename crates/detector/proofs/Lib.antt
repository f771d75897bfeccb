-- What holds of the definitions.
pub mod Along
pub mod Grid
pub mod Refused
pub mod Marks
