-- What the types of this crate hold and how its code works, in words that no public contract cites.
pub mod Columns
pub mod Counts
pub mod Dues
pub mod Nodes
pub mod Parted
pub mod Places
pub mod Walks
