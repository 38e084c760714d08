pub mod BufferLemmas
pub mod LayoutLemmas
pub mod FrontLemmas
pub mod PacketsLemmas
pub mod VisitLemmas
