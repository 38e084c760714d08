pub mod LineLemmas
pub mod TransferLemmas
pub mod StatementLemmas
pub mod RecordLemmas
pub mod FollowLemmas
pub mod PlainLemmas
