pub mod Same
pub mod Finds
pub mod Operations
pub mod Unvalued
pub mod ExpressionValues
pub mod NameValues
pub mod StaticValues
