pub mod Joins
pub mod Relays
