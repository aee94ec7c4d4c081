-- What a sheet stores, and what the function that makes the delta of an edit returns. No public contract cites these.
pub mod Kept
pub mod Makes
