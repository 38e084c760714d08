pub mod PlaceLemmas
pub mod LastLemmas
pub mod NameLemmas
