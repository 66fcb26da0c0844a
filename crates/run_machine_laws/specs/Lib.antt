pub mod Standing
pub mod Reading
pub mod Programs
pub mod Law
pub mod Telling
pub mod Looping
