pub mod Numbers
pub mod Padding
