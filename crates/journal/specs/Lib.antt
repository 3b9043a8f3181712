pub mod Area
pub mod Blocks
pub mod Sound
pub mod Walks
pub mod Answers
