-- Lemmas.
pub mod Each
pub mod ForkFlags
pub mod Gathered
pub mod Grown
pub mod Leavings
pub mod Levels
pub mod Missing
pub mod Narrow
pub mod Parallels
pub mod Programs
pub mod Reading
pub mod Starting
pub mod Subs
pub mod TableSteps
pub mod Texts
