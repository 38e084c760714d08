pub mod Counting
pub mod Runs
pub mod Dropped
pub mod Streams
pub mod Parts
pub mod Sharing
