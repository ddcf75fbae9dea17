pub mod ShownRuns
pub mod SignOf
