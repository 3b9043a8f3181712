pub mod Consumer
pub mod Versions
pub mod SettledExamples
