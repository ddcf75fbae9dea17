pub mod BuilderEndings
pub mod TableAnswers
pub mod FormatEndings
pub mod PartEndings
pub mod ReadEndings
pub mod RunEndings
pub mod TwoColumns
