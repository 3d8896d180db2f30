pub mod FaultLine
pub mod Opening
pub mod Play
pub mod Reading
pub mod WholeText
