mod Sees
mod Reaching
mod Room
mod Formals
mod Walks
mod FitsValues
mod Exits
mod FitsStatements
mod FitsPrograms
mod Alike
mod AlikeValues
mod AlikeStatements
mod Placed
pub mod Codes
mod Levels
mod Readies
mod Ways
mod Once
mod Here
mod Quiets
mod Writes
mod Threads
mod LendsValues
mod LendsStatements
pub mod Leases
mod Programs
pub mod SeenWrites
mod Kept
mod Stood
mod Homes
mod TellsValues
mod TellsStatements
pub mod Told
pub mod Deep
pub mod Tables
