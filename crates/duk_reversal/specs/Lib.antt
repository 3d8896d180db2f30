pub mod Numbers
pub mod State
pub mod Reversal
pub mod Reply
pub mod Authentic
pub mod Answer
