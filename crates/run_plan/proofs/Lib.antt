pub mod Evens
mod Parts
mod Cutting
mod Sound
mod Zeros
