-- Refusals and readings in the numbers that hosts get.
pub mod Numbers
