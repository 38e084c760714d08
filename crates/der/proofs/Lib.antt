pub mod LeadingLemmas
pub mod Base128Lemmas
pub mod EncodingLemmas
