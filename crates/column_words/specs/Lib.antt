pub mod Bits
pub mod Bytes
pub mod Floats
pub mod Numbers
pub mod Refusals
pub mod Rows
pub mod Types
