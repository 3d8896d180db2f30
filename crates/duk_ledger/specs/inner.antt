pub mod IssuedFormat
