-- What the functions say.
pub mod Grants
pub mod Law
pub mod Lent
pub mod Paths
pub mod Words
