pub mod HelloLemmas
pub mod OrderLemmas
