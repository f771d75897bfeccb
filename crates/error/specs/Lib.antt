-- Document 01, "When it says no", with document 02's additions.
pub mod Refusals
