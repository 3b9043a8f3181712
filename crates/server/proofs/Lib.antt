pub mod Found
pub mod InNumbers
pub mod AsCalls
pub mod InPlace
pub mod Planned
pub mod Snapshots
pub mod Machine
