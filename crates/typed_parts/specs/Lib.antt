pub mod ClassChains
pub mod DigitChains
pub mod IndexChains
pub mod Lists
pub mod Looks
pub mod Stack
