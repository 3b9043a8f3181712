pub mod Restart
pub mod Import
pub mod Starting
pub mod Parts
pub mod Versions
pub mod Exports
