pub mod NumberLemmas
pub mod SymbolLemmas
pub mod StepLemmas
pub mod RowLemmas
pub mod FollowLemmas
pub mod ConversationLemmas
pub mod FlowLemmas
pub mod AwaitLemmas
mod BytesLemmas
