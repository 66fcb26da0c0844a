mod Begun
mod Lent
mod Reading
mod Sizes
mod Table
mod Ways
