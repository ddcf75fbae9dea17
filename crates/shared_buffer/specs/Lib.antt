pub mod Buffer
pub mod Storage
