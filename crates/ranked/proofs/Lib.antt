pub mod Leads
pub mod Orders
pub mod Places
pub mod Shifts
