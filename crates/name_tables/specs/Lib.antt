pub mod Heads
pub mod Shapes
