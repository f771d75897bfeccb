-- Document 01, module 7, in the Rust's order of operations: what concerns one detector.
pub mod Checks
pub mod Faces
pub mod Pixels
