pub mod Book
pub mod CellChanges
pub mod Legal
pub mod Published
pub mod Rules
pub mod Seen
pub mod Values
