pub mod MinimalRuns
pub mod OverVisible
pub mod AnsweredRows
pub mod VisibleWindow
pub mod Faults
pub mod Sliced
mod ListParts
mod Parts
mod Shown
pub mod PassedOn
pub mod FilterFaults
pub mod ComputedRows
pub mod ListsTaken
pub mod SetPlaces
pub mod WholeRows
pub mod CastRows
pub mod FilledRows
pub mod ConstantRows
