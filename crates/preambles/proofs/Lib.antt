pub mod DialogueLemmas
pub mod PieceLemmas
pub mod TdsLemmas
pub mod ValueLemmas
pub mod WalkLemmas
