pub mod Lists
pub mod Read
pub mod Returns
