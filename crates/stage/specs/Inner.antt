pub mod Given
pub mod Bindings
