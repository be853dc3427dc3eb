pub mod Lengths
pub mod Answers
pub mod Promises
pub mod Back
