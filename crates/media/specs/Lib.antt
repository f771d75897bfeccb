-- Document 01, "How a ray lives": the media that a ray is inside of.
pub mod Media
