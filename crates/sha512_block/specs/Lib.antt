pub mod Words
pub mod Constants
pub mod Block
pub mod Blocks
