-- Document 01, "`straymap`": how a text is parted, and how its numbers are written.
pub mod Split
pub mod Number
