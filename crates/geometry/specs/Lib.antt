-- Document 01, module 5: where a ray meets a shape, in the Rust's order of operations; and shape 5 of document 02, a.
pub mod Hits
pub mod Flat
pub mod Round
pub mod Closed
pub mod Slabs
pub mod Spans
pub mod Shapes
pub mod Transforms
pub mod Behind
pub mod Away
pub mod Contacts
