pub mod ConnectionLemmas
pub mod EndLemmas
pub mod StreamLemmas
pub mod TableLemmas
pub mod DropLemmas
pub mod MemoryLemmas
pub mod HashLemmas
