pub mod Cuts
pub mod Decimals
pub mod Names
pub mod Quotients
pub mod ReadDecimals
pub mod ReadFormats
pub mod SameTimes
pub mod Unique
