pub mod Focus
pub mod Frame
pub mod Paths
pub mod Apart
pub mod Slices
pub mod Columns
pub mod Told
pub mod Plain
