-- Document 01, module 3: "this order is the definition".
pub mod Vectors
pub mod Matrices
pub mod Rays
