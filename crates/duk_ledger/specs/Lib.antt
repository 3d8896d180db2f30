pub mod Issued
pub mod IssuedFormat
pub mod Ledger
pub mod inner
