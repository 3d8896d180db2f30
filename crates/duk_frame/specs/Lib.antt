pub mod Frame
pub mod Code
pub mod Request
pub mod Answer
pub mod Payment
pub mod Stream
pub mod Feeder
pub mod inner
