pub mod Nibbles
pub mod Padded
pub mod Reading
