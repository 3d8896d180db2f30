-- What the host accepts and replies to, and how purchases end.
pub mod ListsOfOutcomes
pub mod RepliesHold
pub mod StepsSeen
pub mod AcceptedOnce
pub mod Refusals
pub mod RepliedBefore
pub mod EndedByHost
pub mod ComesToBeOpen
pub mod EndsOnce
pub mod KnownFromHost
