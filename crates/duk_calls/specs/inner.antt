pub mod Modules
pub mod Hosts
