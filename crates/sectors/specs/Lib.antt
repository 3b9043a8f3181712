pub mod File
pub mod Marks
