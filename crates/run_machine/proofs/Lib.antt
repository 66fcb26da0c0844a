mod Asks
mod Answered
mod Safety
mod Endings
mod Onward
mod Stops
mod Begun
mod Forks
