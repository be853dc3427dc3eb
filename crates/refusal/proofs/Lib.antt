pub mod Sum
pub mod Unique
pub mod Verdict
pub mod Keeps
pub mod Writes
pub mod WritesUnless
pub mod HandedOn
