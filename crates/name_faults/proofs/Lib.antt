mod Smallest
mod Lists
mod Steps
