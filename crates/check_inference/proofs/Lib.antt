pub mod Places
pub mod Adding
pub mod Expressions
pub mod Bodies
pub mod Whole
pub mod Kept
pub mod Reading
