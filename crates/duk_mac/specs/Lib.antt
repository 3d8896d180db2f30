pub mod Chain
pub mod CheckValue
pub mod Cmac
pub mod Retail
