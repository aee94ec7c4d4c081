pub mod Exports
pub mod Faults
pub mod Imports
pub mod Inside
pub mod Laws
pub mod Records
pub mod TakesIn
