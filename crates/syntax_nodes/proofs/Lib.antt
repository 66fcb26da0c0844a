pub mod Closings
pub mod Items
pub mod Reading
pub mod Stacks
pub mod Sums
