-- Lemmas.
pub mod Fitting
pub mod Forks
pub mod Reading
pub mod Found
