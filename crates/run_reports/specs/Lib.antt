pub mod Ends
pub mod Lines
pub mod Puts
pub mod Rows
pub mod Says
pub mod Vars
