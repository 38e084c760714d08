pub mod Texts
pub mod Reading
pub mod Breaks
pub mod Fractions
pub mod ListTokens
