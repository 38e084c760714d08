pub mod Seconds
pub mod Data
pub mod Entries
pub mod Shown
pub mod Laws
