pub mod Entry
pub mod Groups
pub mod MemoryJournal
