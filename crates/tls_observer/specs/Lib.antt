pub mod Noting
pub mod History
pub mod Ends
pub mod Capacity
