pub mod Closing
pub mod Copies
pub mod Opening
pub mod Passes
pub mod Patches
pub mod Receipts
pub mod Seats
pub mod UnderLock
