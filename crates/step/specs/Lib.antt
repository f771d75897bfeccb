-- Document 01, "How a ray lives": one step, which sees no memory.
pub mod Rays
pub mod Steps
