-- Internal definitions of how lines are read and groups are found. No public contract cites them.
pub mod Joints
pub mod Incomings
pub mod Kept
