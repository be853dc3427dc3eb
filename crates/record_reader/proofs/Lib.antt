pub mod Issued
pub mod Told
pub mod Promises
