-- What holds of the definitions.
pub mod Writing
pub mod Back
pub mod Lines
pub mod Lengths
