pub mod Canonical
pub mod Spoken
