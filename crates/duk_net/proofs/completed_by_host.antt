-- A transaction is done only with the host's reply to its number.
pub mod PendingIsSent
pub mod CompletedByHost
