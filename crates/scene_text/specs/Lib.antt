-- Document 01, "`straymap`": the scene text and what it holds.
pub mod Names
pub mod Cells
pub mod Lines
pub mod Tables
pub mod Blocks
pub mod Scene
pub mod Steps
