-- How a session works between two lines, in words that no public contract cites.
pub mod Holds
pub mod Stands
