pub mod Bytes
mod Past
mod Zeros
pub mod Word
