pub mod SignatureLemmas
pub mod FrontLemmas
