pub mod Refusal
pub mod Extremes
pub mod Meaning
pub mod Step
pub mod KernelForms
pub mod Kept
pub mod Outcomes
pub mod Laws
