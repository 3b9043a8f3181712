pub mod InPlace
pub mod Snapshots
