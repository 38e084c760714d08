pub mod PatternLemmas
pub mod MachineLemmas
pub mod SymbolLemmas
pub mod TableLemmas
