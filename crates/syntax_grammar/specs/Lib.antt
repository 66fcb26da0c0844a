pub mod Brackets
pub mod Declarations
pub mod Expressions
pub mod Levels
pub mod Opened
pub mod Read
pub mod Statements
pub mod Units
