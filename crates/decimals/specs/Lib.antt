pub mod Decimal
pub mod Leads
pub mod Number
