pub mod Answering
pub mod Answers
pub mod Group
pub mod Questions
pub mod Zeros
