pub mod Key
pub mod Runs
pub mod Waiting
pub mod Table
pub mod Law
