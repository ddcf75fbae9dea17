pub mod Stretches
pub mod Masks
pub mod Pieces
pub mod Copies
pub mod FewRuns
