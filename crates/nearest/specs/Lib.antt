-- Document 01, "How a ray lives": only distances above 1e-8 that are finite count; the first listed wins ties.
pub mod Nearest
