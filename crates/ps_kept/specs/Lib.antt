pub mod Inside
pub mod Kept
pub mod Laws
pub mod Starts
