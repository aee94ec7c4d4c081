pub mod Fits
pub mod Inside
pub mod Length
pub mod Line
pub mod Value
