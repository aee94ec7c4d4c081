pub mod CanonicalLemmas
pub mod EntryLemmas
pub mod NumberLemmas
pub mod OrderLemmas
