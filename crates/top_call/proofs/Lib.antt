pub mod Answering
pub mod Causes
pub mod Complete
pub mod Counts
pub mod Headline
pub mod Prefixes
pub mod Soaking
pub mod Variables
