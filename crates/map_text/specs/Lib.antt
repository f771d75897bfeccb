-- Document 01, "`straymap`": a scene's tables of numbers, traced and answered.
pub mod Tables
pub mod StrayMap
