pub mod Shows
pub mod Input
pub mod Environment
