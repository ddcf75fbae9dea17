pub mod Places
pub mod TrueRows
pub mod Cuts
pub mod Copies
