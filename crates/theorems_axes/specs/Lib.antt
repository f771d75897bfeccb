-- What is said of a detector's axes.
pub mod Axes
