-- How the cells get to settled values and what they keep, in words that no public contract cites.
pub mod Alone
pub mod Bounded
pub mod BoundedLaws
pub mod Formulas
pub mod Kept
pub mod Pending
pub mod Screens
pub mod Steps
pub mod Views
pub mod Waiting
pub mod Walk
