-- Laws that the proofs cite.
pub mod Finite
pub mod Shortest
