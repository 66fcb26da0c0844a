mod QuietCode
pub mod Hushing
