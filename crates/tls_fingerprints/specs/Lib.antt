pub mod Numbers
pub mod Hellos
pub mod Ja3
pub mod Ja4
