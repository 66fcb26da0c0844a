pub mod Called
pub mod Touching
pub mod Breaches
pub mod Granted
