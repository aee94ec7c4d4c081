pub mod Guards
pub mod Kept
pub mod Sessions
