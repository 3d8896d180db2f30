pub mod Blocks
pub mod InOrder
pub mod Numbers
pub mod inner
