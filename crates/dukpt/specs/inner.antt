pub mod Answer
pub mod Members
pub mod Meter
pub mod Objects
pub mod Progress
pub mod Written
