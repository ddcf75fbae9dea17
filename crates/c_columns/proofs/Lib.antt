mod Appended
mod BuilderValues
pub mod CountedRows
pub mod ConstantFilters
mod Cuts
pub mod Endings
pub mod Extremes
pub mod FlatParts
pub mod Forms
pub mod Fronts
pub mod Held
pub mod Left
mod LevelCounts
mod ListsPassed
pub mod LookUps
mod MachineValues
pub mod MaskRows
pub mod Passed
pub mod ReadRefusals
mod RunsServed
pub mod RunsTold
mod Served
pub mod Short
pub mod TextRows
pub mod Told
pub mod TrueCounts
pub mod TwoColumns
pub mod MessageEndings
mod NoRuns
