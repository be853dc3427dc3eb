pub mod Again
pub mod Answers
pub mod Promises
pub mod Worked
pub mod Read
