pub mod Cut
pub mod View
