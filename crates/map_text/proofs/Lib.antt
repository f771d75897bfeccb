-- What holds of the definitions.
pub mod Outcomes
pub mod Lengths
pub mod Answers
