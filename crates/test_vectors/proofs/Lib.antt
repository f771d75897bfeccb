pub mod Loops
pub mod Draws
pub mod PartLoops
