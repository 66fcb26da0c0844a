pub mod Faults
pub mod Growth
pub mod Asked
mod Texts
mod Passing
mod Transfers
mod Buffers
