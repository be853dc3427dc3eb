pub mod Cut
pub mod Promises
pub mod Tested
