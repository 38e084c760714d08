mod EventLemmas
mod DatagramLemmas
mod ChangeLemmas
mod ReceivedLemmas
