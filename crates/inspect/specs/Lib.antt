pub mod Verdicts
pub mod Places
pub mod Missed
pub mod Runs
