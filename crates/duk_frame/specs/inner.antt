pub mod Feeder
pub mod Frame
