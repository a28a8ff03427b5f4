pub mod Moved
pub mod Held
pub mod Changed
pub mod Kept
pub mod Told
pub mod Outcomes
pub mod Demand
