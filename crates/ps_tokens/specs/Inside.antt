-- How the code of this crate works, in definitions that no public contract cites.
pub mod Lexing
