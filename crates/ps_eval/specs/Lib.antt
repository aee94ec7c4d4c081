pub mod Number
pub mod Items
pub mod Value
pub mod Laws
pub mod Summarized
pub mod Inside
