pub mod Running
pub mod Asked
pub mod Loops
