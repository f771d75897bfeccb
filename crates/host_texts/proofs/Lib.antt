-- Texts that fit their buffers.
pub mod Whole
