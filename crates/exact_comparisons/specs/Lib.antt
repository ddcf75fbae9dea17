pub mod ExactRows
pub mod Filtered
