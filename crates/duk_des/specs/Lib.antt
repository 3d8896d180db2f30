pub mod Bits
pub mod Tables
pub mod Des
pub mod Words
pub mod Block
pub mod Bytes
pub mod inner
