pub mod Groups
pub mod Orders
pub mod Folded
pub mod Ranks
pub mod Ranked
