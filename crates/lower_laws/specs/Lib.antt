pub mod Rooms
pub mod CodeLaw
pub mod Granted
pub mod LeasesLaw
