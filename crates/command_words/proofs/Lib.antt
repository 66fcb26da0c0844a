mod Numbers
mod Matching
mod Rows
mod Sizes
