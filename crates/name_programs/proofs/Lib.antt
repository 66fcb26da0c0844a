pub mod Contexts
mod Exponents
mod FromPlaces
mod KeptTwice
mod Lists
mod Mentions
pub mod Nested
mod Options
mod Outcomes
mod Rooms
pub mod StatementLevels
mod SubprogramLevels
mod Subs
mod Wholes
