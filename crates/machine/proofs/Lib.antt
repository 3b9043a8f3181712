pub mod Fits
pub mod Replies
pub mod Transitions
pub mod Refusals
pub mod SameView
pub mod Planned
pub mod Exported
