pub mod Formats
pub mod Laws
pub mod Numbers
pub mod Operations
pub mod Storage
pub mod Units
