pub mod Faults
pub mod KeyBlock
pub mod Optional
