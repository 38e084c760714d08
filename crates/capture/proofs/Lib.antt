pub mod HeadersLemmas
pub mod OptionLemmas
pub mod SumLemmas
pub mod VlanLemmas
pub mod LinkLemmas
