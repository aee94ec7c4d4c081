pub mod Apart
pub mod Names
pub mod Text
pub mod Inside
