-- What the code stores, in definitions that no public contract cites.
pub mod Shared
pub mod Counts
pub mod Held
pub mod News
pub mod NewsLaws
pub mod Places
