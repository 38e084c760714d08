mod ArrivalLemmas
mod NetworkLemmas
