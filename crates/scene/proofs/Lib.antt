-- Laws that the search's proofs cite, and what the search's answer means.
pub mod Checks
pub mod Meaning
pub mod There
pub mod Examples
pub mod Parts
pub mod Candidates
