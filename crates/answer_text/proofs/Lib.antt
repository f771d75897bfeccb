-- What holds of the definitions.
pub mod Texts
pub mod Shown
pub mod Lengths
