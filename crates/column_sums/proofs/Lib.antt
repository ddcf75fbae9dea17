pub mod StoredItems
pub mod Within
pub mod RunSums
pub mod SingleRows
pub mod Reaches
pub mod EightBits
pub mod Lanes
