pub mod Columns
pub mod Search
pub mod Merge
mod Gaps
pub mod Places
pub mod Carried
pub mod Slots
pub mod Turned
