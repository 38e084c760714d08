pub mod Numbers
pub mod Doubtful
pub mod Known
pub mod Tally
pub mod Room
pub mod Taking
pub mod Ending
pub mod Law
