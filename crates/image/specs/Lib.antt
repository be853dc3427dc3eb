pub mod Numbers
pub mod Fields
pub mod Formed
pub mod Statuses
pub mod Header
