pub mod KeptFacts
pub mod Subcommands
