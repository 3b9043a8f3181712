pub mod Told
pub mod Served
pub mod Tokens
pub mod ServedOn
pub mod Import
pub mod SameView
