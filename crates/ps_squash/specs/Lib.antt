pub mod Inside
pub mod Selected
pub mod Squashed
