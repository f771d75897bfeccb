-- Document 01, module 2.
pub mod Random
