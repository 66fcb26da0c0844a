mod Lists
mod Reversed
mod Taking
mod Whole
