pub mod Going
pub mod StoredGet
pub mod Getting
pub mod Slots
pub mod Signs
