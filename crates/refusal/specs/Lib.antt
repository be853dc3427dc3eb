pub mod Limits
pub mod Numbers
pub mod Verdict
pub mod Grounds
pub mod Keeps
pub mod Writes
