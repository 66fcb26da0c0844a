mod Operations
mod Constructs
pub mod Rooms
