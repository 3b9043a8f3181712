pub mod Snapshot
pub mod Versions
pub mod Codec
pub mod Examples
