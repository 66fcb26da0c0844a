mod Frames
mod Bounds
mod Back
mod Nested
mod NestedBounds
mod NestedBack
pub mod Worlds
pub mod Framed
pub mod Touching
mod Noted
pub mod Ordered
pub mod Started
pub mod Leading
pub mod Constructs
mod Leavers
pub mod Stoppings
pub mod Hushes
pub mod Enough
pub mod Sums
pub mod Bounded
pub mod Looking
