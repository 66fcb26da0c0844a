pub mod Sites
pub mod Nesting
