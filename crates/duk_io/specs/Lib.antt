pub mod FirstFault
pub mod Known
pub mod Sink
pub mod Source
