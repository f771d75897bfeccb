-- Demand 3 as hosts meet it: lists of calls of exported entries.
pub mod HostCalls
pub mod HostBook
pub mod HostParts
