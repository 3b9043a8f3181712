pub mod Abi
pub mod Answers
pub mod InPlace
pub mod Snapshots
