pub mod Paths
pub mod Iterated
pub mod Orders
pub mod Tasks
pub mod Deals
pub mod Joins
pub mod Noted
pub mod Threads
