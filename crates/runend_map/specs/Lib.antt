pub mod MapInputs
pub mod Codes
pub mod ComparisonForm
pub mod ShownRuns
pub mod MapResult
pub mod TakenForm
