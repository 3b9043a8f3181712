pub mod Hours
pub mod View
