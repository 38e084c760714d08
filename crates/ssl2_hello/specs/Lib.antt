pub mod CipherSpec
pub mod Front
pub mod ClientHello
