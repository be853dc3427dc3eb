pub mod Alphabets
