pub mod WindowLemmas
pub mod ExtensionTextLemmas
pub mod VersionLemmas
