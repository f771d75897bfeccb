-- Document 01, module 8: `trace_rays`.
pub mod Trace
