pub mod Keys
pub mod Group
pub mod Known
pub mod ShortText
