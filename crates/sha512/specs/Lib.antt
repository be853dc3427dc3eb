pub mod Message
pub mod Feeding
