pub mod Found
pub mod Calls
pub mod Inner
