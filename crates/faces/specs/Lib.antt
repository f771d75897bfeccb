-- Document 01, "How a ray lives": the nearest detector.
pub mod Faces
