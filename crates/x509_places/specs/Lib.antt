pub mod Place
pub mod Certificate
pub mod Fields
pub mod Walk
