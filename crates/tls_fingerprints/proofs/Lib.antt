pub mod RisingLemmas
pub mod JoinLemmas
pub mod RoomLemmas
pub mod DigestLemmas
