pub mod ContentLemmas
pub mod FurtherLemmas
pub mod IncompleteLemmas
pub mod DtlsInPlaceLemmas
