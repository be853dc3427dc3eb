pub mod Folded
pub mod Lettered
