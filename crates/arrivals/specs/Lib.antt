pub mod Arrival
pub mod Counts
pub mod Reader
pub mod Fragments
