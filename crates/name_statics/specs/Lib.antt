pub mod Values
pub mod Law
