pub mod TableHandle
pub mod TableEnding
pub mod TableCalls
pub mod Sorts
pub mod Filters
pub mod Groups
