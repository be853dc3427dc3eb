pub mod Changes
pub mod Grounds
