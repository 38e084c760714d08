pub mod JoinLemmas
pub mod HostLemmas
pub mod TimeLemmas
pub mod ExponentLemmas
pub mod ChainLemmas
