pub mod CopyJournal
pub mod CopyLedger
pub mod GrowJournal
pub mod LeftRecords
pub mod NewFile
pub mod OwnFiles
pub mod Serve
