-- What the types of this crate store, in definitions that no public contract cites.
pub mod Walking
