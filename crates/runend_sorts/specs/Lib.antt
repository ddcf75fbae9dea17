pub mod Runs
pub mod Stretches
pub mod Keys
pub mod Keyed
pub mod Reordered
pub mod Counts
