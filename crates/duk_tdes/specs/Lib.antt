pub mod Key
pub mod KeyBytes
pub mod KeyText
pub mod Tdes
pub mod Blocks
pub mod Cbc
pub mod inner
