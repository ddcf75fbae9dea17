pub mod Laws
pub mod Chunks
