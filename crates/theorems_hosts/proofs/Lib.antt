-- Demand 3 as hosts meet it.
pub mod Lists
pub mod Texts
pub mod Answers
pub mod Parts
pub mod Demand
