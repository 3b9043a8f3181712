mod Stores
mod Steps
mod Begins
