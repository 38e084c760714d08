pub mod NameLemmas
pub mod RisingLemmas
