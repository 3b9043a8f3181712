pub mod Layout
pub mod InWords
