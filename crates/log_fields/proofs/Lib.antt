pub mod CodeLemmas
pub mod OwnLemmas
