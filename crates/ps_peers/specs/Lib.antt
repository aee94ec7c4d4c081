pub mod Peers
pub mod Exchange
pub mod Asking
