-- What the scratch of a region holds while it is marked, in words that no public contract cites.
pub mod Cells
pub mod Counts
pub mod Scratch
pub mod LevelWalk
pub mod Outside
pub mod Tallies
pub mod Touched
