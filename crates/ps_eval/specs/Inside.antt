-- What the code of this crate holds and how it works, in words that no public contract cites.
pub mod Operands
