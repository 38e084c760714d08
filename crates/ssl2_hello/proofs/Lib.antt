pub mod NumberLemmas
pub mod TakenLemmas
pub mod KnownLemmas
pub mod FrontLemmas
pub mod HelloLemmas
pub mod LengthLemmas
