pub mod Registers
pub mod Reload
pub mod Image
pub mod inner
