pub mod Lists
pub mod Positions
pub mod Turns
