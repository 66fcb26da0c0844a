-- Definitions of lowering.
pub mod BodyTables
pub mod Gathered
pub mod Idle
pub mod Lowered
pub mod Parts
pub mod Starts
