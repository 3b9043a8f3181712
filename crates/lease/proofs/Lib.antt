pub mod Valid
pub mod Passed
pub mod Lookups
pub mod Generations
pub mod Workers
pub mod Counts
pub mod Leases
pub mod Slots
mod Bounds
mod Returns
mod Whole
mod Claims
pub mod Tokens
pub mod Found
mod Questions
mod Changes
pub mod Lists
pub mod Merge
mod Carried
mod Stores
pub mod InWords
mod InLists
