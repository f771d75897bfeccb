-- Document 01, module 6, and the solids' part of "How a ray lives".
pub mod Objects
pub mod Solids
pub mod Closest
