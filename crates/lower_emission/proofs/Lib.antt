-- Lemmas.
pub mod Computed
pub mod Written
pub mod OwnCells
pub mod Fused
