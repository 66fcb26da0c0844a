pub mod Soak
pub mod Answer
pub mod Causes
pub mod Complete
pub mod Headline
