pub mod Prefix
pub mod Vocabulary
pub mod Walk
