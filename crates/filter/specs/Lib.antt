-- Document 01, "Maps and lists": filters.
pub mod Filters
pub mod Handed
