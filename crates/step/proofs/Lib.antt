-- What holds of a step.
pub mod Ways
