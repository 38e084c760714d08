pub mod LengthLemmas
pub mod ClientHelloTextLemmas
pub mod ServerHelloTextLemmas
pub mod HandshakeTextLemmas
