pub mod Places
pub mod Starts
