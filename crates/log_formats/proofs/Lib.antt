mod CachedLemmas
pub mod ListLemmas
