pub mod Casts
pub mod Formats
pub mod FloatRows
pub mod Patterns
pub mod Comparisons
pub mod Extremes
