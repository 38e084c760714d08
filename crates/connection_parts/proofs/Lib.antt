pub mod HashLemmas
