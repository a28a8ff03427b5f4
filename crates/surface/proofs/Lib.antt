pub mod Writers
pub mod Payloads
pub mod Entry
pub mod Judge
pub mod Calls
pub mod Demand3
pub mod Demand1
pub mod One
