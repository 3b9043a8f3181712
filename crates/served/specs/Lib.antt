pub mod Told
pub mod Served
pub mod Tokens
pub mod Examples
pub mod ServedOn
pub mod Import
