pub mod LastLemmas
pub mod PlaceLemmas
pub mod FindLemmas
pub mod OutwardLemmas
pub mod HelloLemmas
pub mod RecordLemmas
pub mod HostNameLemmas
