pub mod Laying
pub mod Replies
pub mod Promises
pub mod Bound
