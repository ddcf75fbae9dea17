pub mod Decisions
pub mod Exact
pub mod FloatDecisions
pub mod Floats
pub mod Positions
pub mod Quotients
