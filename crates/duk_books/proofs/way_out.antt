-- How a till comes to rest again.
pub mod OpenIsUsed
pub mod Ups
pub mod HostReverses
pub mod TillReverses
pub mod NewNumber
pub mod RunsFirst
pub mod WayOut
