pub mod Calm
pub mod Keys
pub mod Owner
pub mod Places
pub mod Registers
pub mod inner
