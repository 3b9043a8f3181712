pub mod Forms
pub mod Area
pub mod Marks
