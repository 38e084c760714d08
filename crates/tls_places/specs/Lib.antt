pub mod Place
pub mod Last
pub mod Find
pub mod Hello
pub mod DtlsHello
