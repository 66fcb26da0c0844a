pub mod Folds
pub mod Laws
