pub mod ByLine
pub mod Promises
pub mod Worked
