-- What a stored line says, and counting those that agree.
pub mod Lines
pub mod Count
pub mod Parts
pub mod SolidLines
pub mod DetectorLines
