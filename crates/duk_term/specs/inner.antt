pub mod Begin
pub mod Load
pub mod Reversal
pub mod Terminal
