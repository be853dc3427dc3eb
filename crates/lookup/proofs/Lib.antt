pub mod Lowest
pub mod Joined
pub mod Held
