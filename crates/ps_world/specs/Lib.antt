pub mod Inside
pub mod Replicas
pub mod World
pub mod WorldCode
