pub mod Doings
pub mod Paths
pub mod Events
pub mod Memory
pub mod Joins
pub mod Behaviours
