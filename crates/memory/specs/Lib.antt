-- Document 01, "Maps and lists" and "The plain book".
pub mod Memory
pub mod Plain
