mod Products
mod Folding
mod Listed
mod Reassociation
