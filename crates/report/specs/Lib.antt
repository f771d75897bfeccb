-- Document 01, "How a ray lives": the ledger and the tallies.
pub mod Report
