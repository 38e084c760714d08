pub mod CountLemmas
pub mod RunLemmas
pub mod WaitingLemmas
pub mod TableLemmas
pub mod LawLemmas
