-- What holds of the report after a step.
pub mod Meetings
