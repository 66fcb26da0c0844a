pub mod Phases
pub mod Exact
pub mod Places
pub mod Steps
pub mod RaceFree
pub mod Words
mod Leavings
mod FromTheOutset
mod CellKinds
mod Coded
mod Declaring
mod Reading
mod Loads
mod Framed
pub mod Only
mod Standing
