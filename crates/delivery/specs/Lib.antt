pub mod Policy
pub mod Config
pub mod Examples
