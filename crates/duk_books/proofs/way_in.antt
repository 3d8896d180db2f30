-- How a payment comes through.
pub mod Running
pub mod TillBegins
pub mod HostPays
pub mod TillIsTold
pub mod WayIn
