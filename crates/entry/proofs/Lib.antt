pub mod EntryTests
pub mod Promises
