pub mod Closes
mod CopyLemmas
mod Locked
mod Receipted
mod Noted
mod Owners
mod Read
mod SeatChanges
pub mod SeatLemmas
pub mod SeatRuns
mod TableLemmas
mod Waiting
