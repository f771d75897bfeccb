-- Document 01, "How a ray lives": steps until no ray is left, and what they make of the memory.
pub mod Stack
pub mod Run
