pub mod Blanks
pub mod Chains
pub mod Inside
pub mod Place
pub mod Rectangle
pub mod Refusals
