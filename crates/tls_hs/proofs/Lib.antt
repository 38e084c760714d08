pub mod MsgTypeLemmas
pub mod PlacesLemmas
pub mod ListedLemmas
