pub mod Crash
pub mod Digested
pub mod Digests
pub mod Journals
pub mod Lines
pub mod Traces
