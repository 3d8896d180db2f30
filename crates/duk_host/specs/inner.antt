pub mod Handle
pub mod Host
pub mod Index
pub mod Judged
pub mod Reading
pub mod Recent
pub mod Serve
