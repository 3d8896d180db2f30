mod CheckSums
mod FieldPlaces
mod MemoryJournalMeaning
mod SaidEntries
mod StandingPayments
mod CheckedContents
mod ChangedBytes
