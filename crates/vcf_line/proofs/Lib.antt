pub mod Answers
pub mod Behind
pub mod Places
pub mod Promises
pub mod Scanned
pub mod Stands
