pub mod Stepping
pub mod Copying
pub mod Texts
pub mod Reducing
pub mod Dealt
mod PathTables
