pub mod Named
pub mod Onward
pub mod Passed
pub mod Promises
pub mod Worked
