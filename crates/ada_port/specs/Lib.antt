pub mod Ports
pub mod Counts
pub mod Shelves
pub mod Sources
pub mod Sinks
pub mod Streams
