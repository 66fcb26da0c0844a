pub mod Order
pub mod Fresh
pub mod Law
