pub mod Label
pub mod Operand
pub mod Shown
pub mod Stored
