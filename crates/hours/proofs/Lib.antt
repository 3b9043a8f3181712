pub mod Above
pub mod Bits
pub mod Search
pub mod Openings
pub mod View
