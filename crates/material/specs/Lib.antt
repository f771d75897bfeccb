-- Document 01, module 4.
pub mod Media
