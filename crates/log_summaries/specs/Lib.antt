pub mod Pieces
pub mod Summary
