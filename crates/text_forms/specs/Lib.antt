pub mod Hexadecimal
pub mod Escaped
pub mod Comma
pub mod Tab
pub mod Laws
