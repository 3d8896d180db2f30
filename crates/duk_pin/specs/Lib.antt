pub mod Digits
pub mod Pin
pub mod Pan
pub mod Nibbles
pub mod PinBlock
pub mod FaultName
pub mod inner
