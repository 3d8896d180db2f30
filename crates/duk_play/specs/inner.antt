pub mod Opening
pub mod Play
pub mod Reading
