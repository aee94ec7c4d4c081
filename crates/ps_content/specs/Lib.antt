pub mod Content
pub mod Entry
pub mod Order
pub mod OrderLaws
