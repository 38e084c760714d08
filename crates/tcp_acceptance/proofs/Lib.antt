pub mod BoundLemmas
pub mod DifferLemmas
pub mod LawLemmas
pub mod MapLemmas
pub mod RefuteLemmas
pub mod RoomLemmas
pub mod TakeLemmas
