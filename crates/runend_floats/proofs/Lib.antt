pub mod CoveredRows
pub mod RunSums
pub mod CastLists
pub mod Rounded
pub mod FormatRows
