pub mod Datagrams
pub mod Another
pub mod DatagramRecords
pub mod Senders
