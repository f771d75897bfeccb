-- What holds of the definitions.
pub mod Pieces
pub mod Calls
