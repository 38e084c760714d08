pub mod Names
pub mod Read
pub mod Timestamps
pub mod Values
pub mod Noted
pub mod Responses
