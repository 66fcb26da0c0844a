pub mod Folds
pub mod Sites
pub mod Slacks
