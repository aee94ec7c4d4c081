mod Adding
pub mod Beginnings
mod Decided
mod FewChanges
mod Followed
mod Gathered
mod Kept
pub mod Noted
pub mod Orders
mod Turned
