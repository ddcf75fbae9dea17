pub mod PairEndings
pub mod Answered
pub mod GroupEndings
pub mod FloatEndings
pub mod FloatPairEndings
pub mod OrderEndings
mod Calculations
pub mod PartEndings
pub mod CastEndings
pub mod TotalEndings
pub mod RescaleEndings
mod NumberEndings
mod TypedEndEndings
mod TypedRowEndings
pub mod TypedSumEndings
