pub mod Parsing
pub mod Hex
mod Taking
pub mod Putting
mod Digits
mod Filling
