-- What holds of the definitions.
pub mod Sift
pub mod Agree
pub mod Hands
pub mod Both
