pub mod Blank
pub mod Convert
pub mod Copy
pub mod Head
pub mod Ledger
pub mod Rest
