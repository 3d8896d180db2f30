pub mod BodyIsFoundAgain
mod ImageNotKept
pub mod Reversals
