pub use Rattle.layouts.specs.Bytes
pub use Rattle.layouts.specs.Layout
pub use Rattle.layouts.specs.Meaning
pub use Rattle.layouts.specs.Answers
pub mod KeyExchange
pub mod Signature
pub mod Timestamp
