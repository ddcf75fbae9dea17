pub mod Refusals
pub mod Refusing
