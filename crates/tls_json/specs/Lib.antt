pub mod Views
pub mod Outline
pub mod Tables
pub mod Extensions
pub mod Certificates
pub mod Whole
pub mod Timestamps
pub mod Responses
