pub mod Verdicts
pub mod Sequence
pub mod Ends
pub mod Named
mod Rows
