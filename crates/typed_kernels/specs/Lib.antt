pub mod Extremes
pub mod Served
pub mod Sums
pub mod Views
