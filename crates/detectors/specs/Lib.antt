-- Document 01, module 7: a list of detectors, the places of their pixels, and a reading of the flux map.
pub mod Detectors
pub mod Readings
