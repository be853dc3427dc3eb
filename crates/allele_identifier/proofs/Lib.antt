pub mod Hashing
pub mod Answers
pub mod Promises
pub mod Same
pub mod Back
