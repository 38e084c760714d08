pub mod SymbolLemmas
pub mod RowLemmas
pub mod FollowLemmas
pub mod ConversationLemmas
