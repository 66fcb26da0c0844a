pub mod Places
pub mod Played
pub mod States
pub mod Strides
pub mod Viewed
