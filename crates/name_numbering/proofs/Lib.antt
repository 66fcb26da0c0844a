mod Alike
mod Lists
mod Places
mod Seen
