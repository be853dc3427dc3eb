pub mod Blocks
pub mod Join
pub mod Bytes
