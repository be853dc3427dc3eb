pub mod BlankTests
pub mod Promises
