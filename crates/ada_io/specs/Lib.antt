pub mod Gets
pub mod Looks
pub mod Phases
pub mod Plain
