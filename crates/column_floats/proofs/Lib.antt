pub mod KeyBounds
pub mod TestMeanings
pub mod StoredRows
pub mod TestedRows
pub mod KeyExtremes
pub mod CastRows
pub mod CastKeys
