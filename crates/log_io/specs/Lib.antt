pub mod Exit
pub mod Output
pub mod Run
