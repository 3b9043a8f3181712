pub mod Calls
pub mod Transitions
pub mod Answers
pub mod View
pub mod Parts
