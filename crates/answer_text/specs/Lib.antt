-- Document 01, "`straymap`": what it prints.
pub mod Answer
