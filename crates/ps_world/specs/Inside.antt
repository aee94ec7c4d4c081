-- How a world is opened and goes on, in words that no public contract cites.
pub mod Steps
