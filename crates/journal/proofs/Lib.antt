pub mod Area
pub mod Blocks
pub mod Sound
pub mod Walks
pub mod Group
pub mod Worn
mod Writer
mod Walker
mod Reader
