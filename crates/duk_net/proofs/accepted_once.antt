-- The host accepts each number at most once.
pub mod RepeatsWereSent
pub mod AcceptedOnce
