-- Document 01, "Maps and lists": the given rays, and refusals 17, 10 and 11 of them.
pub mod Given
