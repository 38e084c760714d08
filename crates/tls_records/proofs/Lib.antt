pub mod ContentLemmas
pub mod FurtherLemmas
pub mod IncompleteLemmas
pub mod NoMoreLemmas
pub mod RecordTextLemmas
pub mod InPlaceLemmas
