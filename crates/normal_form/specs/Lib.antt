pub mod Form
pub mod Stretches
pub mod Inner
pub mod Steps
pub mod Worked
