pub mod Checkpoint
pub mod Counts
pub mod Parts
pub mod Scratch
pub mod Syncs
pub mod Valid
pub mod Writing
