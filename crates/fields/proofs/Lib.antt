pub mod Cutting
pub mod Pieces
