pub mod Digits
pub mod Leads
pub mod Reading
pub mod Writing
pub mod Worked
