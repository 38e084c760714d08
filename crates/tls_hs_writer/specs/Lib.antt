pub mod HandshakeWriter
pub mod Writable
pub use Rattle.layouts.specs.Bytes
pub use Rattle.layouts.specs.Meaning
pub use Rattle.layouts.specs.Writer
pub use Rattle.tls_hs.specs.Handshake
pub use Rattle.tls_hs.specs.HandshakeText
