pub mod Encrypted
pub mod Drafts
pub mod Exchange
pub mod Hellos
pub mod Parts
pub mod ChainOrder
pub mod HandshakeSummary
pub mod Fields
