-- What the benchmark's loops compute.
pub mod Loops
pub mod Hits
