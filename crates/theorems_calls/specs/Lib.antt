-- Demand 3: split batches, and what a list of calls answers and leaves.
pub mod Parts
pub mod Calls
pub mod Book
