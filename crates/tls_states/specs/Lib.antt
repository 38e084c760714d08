pub mod Symbols
pub mod Grammar
pub mod Conversations
pub mod Steps
pub mod Table
pub mod States
