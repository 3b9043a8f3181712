pub mod Snapshot
pub mod Codec
mod Writing
pub mod PairByPair
mod Reading
mod ReadColumns
