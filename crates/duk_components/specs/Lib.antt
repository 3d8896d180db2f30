pub mod Blocks
pub mod Components
pub mod Fault
pub mod NewComponent
