pub mod Words
pub mod Lines
pub mod Output
pub mod Templates
