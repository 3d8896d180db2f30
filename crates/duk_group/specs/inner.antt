pub mod Turns
pub mod Walk
pub mod Messages
pub mod Block
pub mod InOrder
