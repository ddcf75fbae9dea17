pub mod BitWords
pub mod ByteWords
pub mod HexPairs
pub mod TypeNames
pub mod FloatWords
