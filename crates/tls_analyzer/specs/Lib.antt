pub mod Following
pub mod Analyzers
pub mod Records
pub mod Capacity
