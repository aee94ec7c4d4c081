pub mod Device
pub mod Writers
