pub mod Counted
pub mod Limits
