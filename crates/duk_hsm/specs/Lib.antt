pub mod Keys
pub mod InitialKey
pub mod Load
pub mod Commands
pub mod TransactionKeys
pub mod Group
pub mod View
pub mod inner
