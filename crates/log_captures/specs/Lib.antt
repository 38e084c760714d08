pub mod Failures
pub mod LineCounts
pub mod Options
