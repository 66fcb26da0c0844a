pub mod Named
pub mod Outs
pub mod Scopes
