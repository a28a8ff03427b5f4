pub mod Writers
pub mod Judge
pub mod Reads
pub mod Entry
pub mod Calls
pub mod Demand1
pub mod Demand3
pub mod One
