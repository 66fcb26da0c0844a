pub mod Declarations
pub mod Depths
pub mod Examples
pub mod Expressions
pub mod Rows
pub mod Statements
pub mod Units
