pub mod LocationTexts
pub mod AlleleTexts
pub mod Exits
pub mod Lies
pub mod Promises
