pub mod Characters
pub mod Encoding
