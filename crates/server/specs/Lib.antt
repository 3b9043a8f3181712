pub mod Abi
pub mod Kinds
pub mod Transitions
pub mod Parts
