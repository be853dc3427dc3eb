pub mod Events
pub mod Runs
pub mod Demand
pub mod Example
