pub mod CellSets
pub mod Found
pub mod Inside
pub mod Laws
pub mod Listed
pub mod Values
