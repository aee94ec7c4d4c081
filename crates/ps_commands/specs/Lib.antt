pub mod Checks
pub mod Commands
pub mod Kept
pub mod Status
