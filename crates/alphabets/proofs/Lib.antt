pub mod Asked
pub mod Foreign
pub mod Letters
pub mod Ranges
pub mod DigestText
pub mod Promises
