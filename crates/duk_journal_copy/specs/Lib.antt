pub mod Version
pub mod Blank
pub mod Copy
pub mod InPart
pub mod Ledger
pub mod inner
