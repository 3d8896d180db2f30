pub mod ConfigFile
pub mod Entries
pub mod EntryFaults
pub mod Opened
