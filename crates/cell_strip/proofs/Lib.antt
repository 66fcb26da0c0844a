pub mod Crosses
pub mod Memory
pub mod Rows
pub mod Sharing
pub mod Slots
