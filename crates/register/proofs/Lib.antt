pub mod Accepted
pub mod Latest
pub mod Promises
