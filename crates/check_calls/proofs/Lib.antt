pub mod Least
pub mod Reading
