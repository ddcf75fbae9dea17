pub mod Digits
pub mod Rows
pub mod Totals
pub mod Scales
pub mod Rescaling
