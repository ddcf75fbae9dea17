pub mod Joined
pub mod Encoding
pub mod Starts
pub mod Windows
