pub mod Enough
pub mod Blanks
mod Looking
pub mod Reaches
pub mod Steps
