-- What a host is answered of detectors, maps and the hit list.
pub mod Detecting
pub mod Maps
