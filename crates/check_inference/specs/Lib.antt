pub mod Paths
pub mod Gather
pub mod Words
pub mod Program
pub mod Exact
