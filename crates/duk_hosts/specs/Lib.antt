pub mod Book
pub mod Events
pub mod OneHost
pub mod Told
pub mod Tills
pub mod inner
