pub mod Exchanges
pub mod Schedule
pub mod Wiring
pub mod Words
